-- A cheaper round in the place of a round, until there is none. Assumes nothing.
use Rattle.std.specs.Prelude.{◌≡◌, ℕ, true, List, Some, None, Option}
use Rattle.rows.specs.Rows.{Row}
use Rattle.rows.specs.Kinds.{Kind, cheaper}
use Rattle.costs.specs.declared.rate.Rate.{Rate}
use Rattle.charts.specs.Meaning.{Meaning}
use Rattle.search.specs.declared.round.Held.{Held}
use Rattle.search.specs.Search.{Holds, Least}

-- a round stands in front of the buffer in the place of the one that was given, and is cheaper and least
pub record Replaced {K : Type 0} (k : Kind) (row : K → Row) (m : Meaning) (was : Held K) (costs : List K) (buffer : List ℕ) (new : Held K) : Type 0 where
  pub holds : Holds row m buffer new
  pub cheaper_than : cheaper k (row new.rate.cost) new.rate.hours (row was.rate.cost) was.rate.hours ≡ true
  pub least : Least k row m new.rate costs

-- the round that was given is still there, the buffer unchanged, and is least
pub record Kept {K : Type 0} (k : Kind) (row : K → Row) (m : Meaning) (was : Held K) (old : List ℕ) (costs : List K) (buffer : List ℕ) : Type 0 where
  pub unchanged : buffer ≡ old
  pub holds : Holds row m buffer was
  pub least : Least k row m was.rate costs

-- the round that was given was replaced by this one; or it was kept
abbrev pub Improvement : {K : Type 0} → Kind → (K → Row) → Meaning → Held K → List ℕ → List K → List ℕ → Option (Held K) → Type 0
Improvement k row m was old costs buffer (Some new) = Replaced k row m was costs buffer new
Improvement k row m was old costs buffer None = Kept k row m was old costs buffer

-- so far: the round found last, whose rate is at hand, or none in the place of the one that was given
pub record Better {K : Type 0} (k : Kind) (row : K → Row) (m : Meaning) (was : Held K) (rate : Rate K) (buffer : List ℕ) (new : Held K) : Type 0 where
  pub holds : Holds row m buffer new
  pub rate_is : rate ≡ new.rate
  pub cheaper_than : cheaper k (row new.rate.cost) new.rate.hours (row was.rate.cost) was.rate.hours ≡ true

abbrev pub Improving : {K : Type 0} → Kind → (K → Row) → Meaning → Held K → List ℕ → Rate K → List ℕ → Option (Held K) → Type 0
Improving k row m was old rate buffer (Some new) = Better k row m was rate buffer new
Improving k row m was old rate buffer None = (buffer ≡ old) × (rate ≡ was.rate)
