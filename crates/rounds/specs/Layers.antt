-- Layers, that is, least weights of walks of at most so many legs, and the step from one to the next. Assumes nothing.
use Rattle.std.specs.Prelude.{◌≡◌, ℕ, suc, ◌<◌, ◌≤◌, true, false, ◌⊎◌, List, length}
use Rattle.rows.specs.Rows.{Row, zero_row, sum}
use Rattle.rows.specs.Kinds.{Kind}
use Rattle.charts.specs.Meaning.{Meaning}
use Rattle.rounds.specs.Legs.{there, leaves, reaches}
use Rattle.rounds.specs.Walks.{Walk}
use Rattle.rounds.specs.Rates.{sum_of}
use Rattle.rounds.specs.Marks.{WeighedWalk}

-- each leg weighs w, and d v stands beside port v
module _ (k : Kind) (m : Meaning) (w : ℕ → Row) where
  -- d v is the least weight of a walk of at most i legs that ends at port v
  pub record Layer (i : ℕ) (d : ℕ → Row) : Type 0 where
    pub attained : (v : ℕ) → v < m.ports → (a : WeighedWalk m w v (d v)) × (length a.legs ≤ i)
    pub least : (u v : ℕ) (ns : List ℕ) → v < m.ports → Walk m u ns v → length ns ≤ i → k.below (sum_of w ns) (d v) ≡ false

  -- no leg makes a port lower
  abbrev pub Settled : (ℕ → Row) → Type 0
  Settled d = (n : ℕ) → there m n ≡ true → k.below (sum (d (leaves m n)) (w n)) (d (reaches m n)) ≡ false

  -- from d to e; by v is 0, or the number and 1 of the leg that made port v lower
  module _ (d e : ℕ → Row) (by : ℕ → ℕ) where
    -- port v stays as it was
    pub record Same (v : ℕ) : Type 0 where
      pub none : by v ≡ 0
      pub same : e v ≡ d v

    -- a leg made port v lower
    pub record Lower (v : ℕ) : Type 0 where
      pub number : ℕ
      pub made_by : by v ≡ suc number
      pub is_there : there m number ≡ true
      pub to : reaches m number ≡ v
      pub comes : e v ≡ sum (d (leaves m number)) (w number)
      pub lower : k.below (e v) (d v) ≡ true

    -- each leg numbered below j was tried once
    pub record Relaxed (j : ℕ) : Type 0 where
      pub tried : (n : ℕ) → n < j → there m n ≡ true → k.below (sum (d (leaves m n)) (w n)) (e (reaches m n)) ≡ false
      pub made : (v : ℕ) → v < m.ports → Same v ⊎ Lower v

  -- layers 0 to top, the first zero at every port, each made from the one before by trying every leg
  pub record Layers (by : ℕ → ℕ → ℕ) (top : ℕ) : Type 0 where
    pub row : ℕ → ℕ → Row
    pub start : (v : ℕ) → row 0 v ≡ zero_row
    pub steps : (i : ℕ) → i < top → Relaxed (row i) (row (suc i)) (by i) (length m.entries)
