-- What asking a whole chart for its least round answers. Assumes nothing.
use Rattle.std.specs.Prelude.{ℕ, List, Ok, Err, Result}
use Rattle.limits.specs.declared.refusal.Refusal.{Refusal}
use Rattle.limits.specs.declared.refusal.Refusal.TheVariants.{Port, Cost, Hours, NumberTaken, Number, Length, EntryOver, IdleRound, NoRound, Malformed, NothingStands}
use Rattle.rows.specs.Rows.{Row}
use Rattle.rows.specs.Kinds.{Kind}
use Rattle.charts.specs.Meaning.{Meaning}
use Rattle.rounds.specs.Rates.{NoIdleRound}
use Rattle.rounds.specs.Rates.{IdleRound as Idle}
use Rattle.rounds.specs.Walks.{ClosedWalk}
use Rattle.search.specs.Over.{SomeOver}
use Rattle.search.specs.Search.{Holds, Least}
use Rattle.search.specs.declared.round.Held.{Held}

-- why a chart has no answer: the buffers are too short, some entry is over, some round is idle, there is no round; each asked only after those before it
abbrev pub RefusedFor : Meaning → Type 0 → Refusal → Type 0
RefusedFor m lent Length = lent → ⊥
RefusedFor m lent EntryOver = lent × SomeOver m
RefusedFor m lent IdleRound = lent × (SomeOver m → ⊥) × ((ns : List ℕ) × Idle m ns)
RefusedFor m lent NoRound = lent × (SomeOver m → ⊥) × NoIdleRound m × ((ns : List ℕ) → ClosedWalk m ns → ⊥)
RefusedFor m lent Port = ⊥
RefusedFor m lent Cost = ⊥
RefusedFor m lent Hours = ⊥
RefusedFor m lent NumberTaken = ⊥
RefusedFor m lent Number = ⊥
RefusedFor m lent Malformed = ⊥
RefusedFor m lent NothingStands = ⊥

-- a round of least rate in front of the buffer, and the marks in front of the costs
pub record LeastFound {K : Type 0} (k : Kind) (row : K → Row) (m : Meaning) (costs : List K) (buffer : List ℕ) (h : Held K) : Type 0 where
  pub none_over : SomeOver m → ⊥
  pub none_idle : NoIdleRound m
  pub holds : Holds row m buffer h
  pub least : Least k row m h.rate costs

abbrev pub Finds : {K : Type 0} → Kind → (K → Row) → Meaning → Type 0 → List K → List ℕ → Result (Held K) Refusal → Type 0
Finds k row m lent costs buffer (Ok h) = LeastFound k row m costs buffer h
Finds k row m lent costs buffer (Err e) = RefusedFor m lent e
