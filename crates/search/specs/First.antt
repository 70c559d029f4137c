-- A leg picked into each port, and the cycles that picked legs make. Assumes nothing.
use Rattle.std.specs.Prelude.{◌≡◌, ℕ, ◌-◌, ◌<◌, ◌≤◌, true, List, length, take, Some, None, Option, slice_index}
use Rattle.charts.specs.Meaning.{Meaning}
use Rattle.rounds.specs.Legs.{there, reaches}
use Rattle.rounds.specs.Rounds.{Round}

-- at each port 0, or the number and 1 of a leg that reaches it
pub record Picked (m : Meaning) (picks : List ℕ) : Type 0 where
  pub long : length picks ≡ m.ports
  pub legs : (v : ℕ) → v < m.ports → 0 < slice_index picks v → (there m (slice_index picks v - 1) ≡ true) × (reaches m (slice_index picks v - 1) ≡ v)

-- where there is one, it is a round in front of a buffer
abbrev pub RoundIf : Meaning → List ℕ → Option ℕ → Type 0
RoundIf m buffer (Some n) = (n ≤ m.ports) × Round m (take n buffer)
RoundIf m buffer None = Unit {0}
