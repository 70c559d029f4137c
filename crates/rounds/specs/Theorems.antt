-- What is proved of walks and rounds, as statements. Assumes nothing.
use Rattle.std.specs.Prelude.{◌≡◌, ℕ, ◌+◌, ◌<◌, ◌≤◌, true, List, ◌++◌, length}
use Rattle.rows.specs.Rows.{Row, zero_row, sum}
use Rattle.rows.specs.Kinds.{Kind}
use Rattle.charts.specs.Meaning.{Meaning}
use Rattle.rounds.specs.Lists.{DrawnFrom, Turned}
use Rattle.rounds.specs.Walks.{Walk, ClosedWalk, Repeat}
use Rattle.rounds.specs.Rounds.{Round}
use Rattle.rounds.specs.Rates.{cost_of, hours_of, walk_cheaper, weight, IdleRound, NoIdleRound, CheaperRound, NoRoundCheaper, Best}
use Rattle.rounds.specs.Standing.{kept, numbers, still_there}

-- walks join and split, and their sums add
pub record WalksAdd (m : Meaning) : Type 0 where
  pub joins : (u v x : ℕ) (xs ys : List ℕ) → Walk m u xs v → Walk m v ys x → Walk m u (xs ++ ys) x
  pub splits : (u x : ℕ) (xs ys : List ℕ) → Walk m u (xs ++ ys) x → (v : ℕ) × Walk m u xs v × Walk m v ys x
  pub costs : (xs ys : List ℕ) → cost_of m (xs ++ ys) ≡ sum (cost_of m xs) (cost_of m ys)
  pub hours : (xs ys : List ℕ) → hours_of m (xs ++ ys) ≡ hours_of m xs + hours_of m ys
  pub weights : (c : Row) (t : ℕ) (xs ys : List ℕ) → weight m c t (xs ++ ys) ≡ sum (weight m c t xs) (weight m c t ys)
  -- turned to its lowest number, a list costs and takes the same
  pub turned_cost : (old new : List ℕ) → Turned old new → cost_of m new ≡ cost_of m old
  pub turned_hours : (old new : List ℕ) → Turned old new → hours_of m new ≡ hours_of m old

-- a walk weighs less than zero exactly when it is cheaper
abbrev pub WeightTells : Kind → Meaning → Type 0
WeightTells k m = (c : Row) (t : ℕ) (ns : List ℕ) → k.below (weight m c t ns) zero_row ≡ walk_cheaper k m ns c t

-- a walk of as many legs as there are ports passes a port twice, and a round is drawn from it; a round has no more legs than there are ports
pub record PortsBound (m : Meaning) : Type 0 where
  pub repeats : (u v : ℕ) (ns : List ℕ) → u < m.ports → Walk m u ns v → m.ports ≤ length ns → Repeat m u ns v
  pub holds : (u v : ℕ) (ns : List ℕ) → u < m.ports → Walk m u ns v → m.ports ≤ length ns → (ms : List ℕ) × Round m ms × DrawnFrom ns ms
  pub short : (ns : List ℕ) → Round m ns → length ns ≤ m.ports

-- a round is drawn from every closed walk, and from an idle one an idle round
pub record ClosedWalksHold (m : Meaning) : Type 0 where
  pub round : (ns : List ℕ) → ClosedWalk m ns → (ms : List ℕ) × Round m ms × DrawnFrom ns ms
  pub idle : (ns : List ℕ) → ClosedWalk m ns → hours_of m ns ≡ 0 → (ms : List ℕ) × IdleRound m ms × DrawnFrom ns ms
  pub hours : NoIdleRound m → (ns : List ℕ) → ClosedWalk m ns → 0 < hours_of m ns

-- from a cheaper closed walk a cheaper round is drawn: no round is cheaper exactly when no closed walk is
pub record CheaperWalksHold (k : Kind) (m : Meaning) (c : Row) (t : ℕ) : Type 0 where
  pub cheaper_round : (ns : List ℕ) → ClosedWalk m ns → walk_cheaper k m ns c t ≡ true → (ms : List ℕ) × CheaperRound k m c t ms × DrawnFrom ns ms
  pub no_round : Best k m c t → NoRoundCheaper k m c t
  pub no_walk : NoRoundCheaper k m c t → Best k m c t

-- a round is still there on its own chart, and is a round on every chart on which it is still there
pub record KeptRoundsStand (old : Meaning) : Type 0 where
  pub same_numbers : (ns : List ℕ) → numbers (kept old ns) ≡ ns
  pub at_first : (ns : List ℕ) → Round old ns → still_there old (kept old ns) ≡ true
  pub same_ports : (new : Meaning) (ns : List ℕ) → still_there new (kept old ns) ≡ true → kept new ns ≡ kept old ns
  pub later : (new : Meaning) (ns : List ℕ) → Round old ns → still_there new (kept old ns) ≡ true → Round new ns
