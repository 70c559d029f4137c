-- What the legs of a list cost and take together, and what they weigh against a rate, that is, a cost in so many hours. Assumes nothing.
use Rattle.std.specs.Prelude.{◌≡◌, ℕ, ◌+◌, ◌<◌, Bool, true, false, List, [], ◌∷◌}
use Rattle.rows.specs.Rows.{Row, zero_row, sum, negative, times}
use Rattle.rows.specs.Kinds.{Kind, cheaper}
use Rattle.charts.specs.Meaning.{Meaning}
use Rattle.rounds.specs.Legs.{figures_at}
use Rattle.rounds.specs.Walks.{ClosedWalk}
use Rattle.rounds.specs.Rounds.{Round}

-- the sum of what each number brings
abbrev pub sum_of : (ℕ → Row) → List ℕ → Row
sum_of w [] = zero_row
sum_of w (n ∷ ns) = sum (w n) (sum_of w ns)

-- what the legs cost together
abbrev pub cost_of : Meaning → List ℕ → Row
cost_of m ns = sum_of (λ n. (figures_at m n).cost) ns

-- the hours that the legs take together
abbrev pub hours_of : Meaning → List ℕ → ℕ
hours_of m [] = 0
hours_of m (n ∷ ns) = (figures_at m n).hours + hours_of m ns

-- the legs are cheaper than cost c in t hours, compared by multiplying across
abbrev pub walk_cheaper : Kind → Meaning → List ℕ → Row → ℕ → Bool
walk_cheaper k m ns c t = cheaper k (cost_of m ns) (hours_of m ns) c t

-- the weight of a leg against cost c in t hours: t times its cost, less its hours times c
abbrev pub leg_weight : Meaning → Row → ℕ → ℕ → Row
leg_weight m c t n = sum (times t (figures_at m n).cost) (negative (times (figures_at m n).hours c))

-- the weight of a walk: the sum of the weights of its legs
abbrev pub weight : Meaning → Row → ℕ → List ℕ → Row
weight m c t ns = sum_of (leg_weight m c t) ns

-- a round that takes no hours
pub record IdleRound (m : Meaning) (ns : List ℕ) : Type 0 where
  pub round : Round m ns
  pub idle : hours_of m ns ≡ 0

-- every round takes some hours
abbrev pub NoIdleRound : Meaning → Type 0
NoIdleRound m = (ns : List ℕ) → Round m ns → 0 < hours_of m ns

-- a round that is cheaper than cost c in t hours
pub record CheaperRound (k : Kind) (m : Meaning) (c : Row) (t : ℕ) (ns : List ℕ) : Type 0 where
  pub round : Round m ns
  pub cheaper_than : walk_cheaper k m ns c t ≡ true

-- no round is cheaper than cost c in t hours
abbrev pub NoRoundCheaper : Kind → Meaning → Row → ℕ → Type 0
NoRoundCheaper k m c t = (ns : List ℕ) → Round m ns → walk_cheaper k m ns c t ≡ false

-- cost c in t hours is the best: no closed walk is cheaper
abbrev pub Best : Kind → Meaning → Row → ℕ → Type 0
Best k m c t = (ns : List ℕ) → ClosedWalk m ns → walk_cheaper k m ns c t ≡ false
