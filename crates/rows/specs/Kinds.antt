-- What a cost kind says of rows, and the laws that it shows for all of them. Assumes nothing.
use Rattle.std.specs.Prelude.{◌≡◌, ℕ, ◌+◌, ◌*◌, ◌≤◌, Bool, true, false}
use Rattle.limits.specs.Numbers.{most_places}
use Rattle.rows.specs.Rows.{Row, zero_row, sum, negative, times}

pub record Kind : Type 0 where
  -- how many places its values have
  pub places : ℕ
  -- which row is below which
  pub below : Row → Row → Bool
  pub size : Row → ℕ

-- neither is below the other
abbrev pub Level : Kind → Row → Row → Type 0
Level k a b = (k.below a b ≡ false) × (k.below b a ≡ false)

pub record Laws (k : Kind) : Type 0 where
  pub some_place : 1 ≤ k.places
  pub few_places : k.places ≤ most_places
  pub irreflexive : (a : Row) → k.below a a ≡ false
  pub transitive : (a b c : Row) → k.below a b ≡ true → k.below b c ≡ true → k.below a c ≡ true
  pub level_transitive : (a b c : Row) → Level k a b → Level k b c → Level k a c
  -- adding one row to both sides changes neither below nor level
  pub shifted : (a b c : Row) → k.below (sum a c) (sum b c) ≡ k.below a b
  pub size_zero : k.size zero_row ≡ 0
  pub size_negative : (a : Row) → k.size (negative a) ≡ k.size a
  pub size_sum : (a b : Row) → k.size (sum a b) ≤ k.size a + k.size b
  pub size_times : (n : ℕ) (a : Row) → k.size (times n a) ≤ n * k.size a

-- The rate of cost c1 in t1 hours is cheaper than that of c2 in t2: compared by multiplying across.
abbrev pub cheaper : Kind → Row → ℕ → Row → ℕ → Bool
cheaper k c1 t1 c2 t2 = k.below (times t2 c1) (times t1 c2)
