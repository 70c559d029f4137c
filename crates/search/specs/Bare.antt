-- Some round of a chart, whatever it costs, and some idle one. Assumes nothing.
use Rattle.std.specs.Prelude.{◌≡◌, ℕ, ◌≤◌, Bool, true, false, List, take, Some, None, Option}
use Rattle.charts.specs.Meaning.{Meaning}
use Rattle.rounds.specs.Walks.{ClosedWalk}
use Rattle.rounds.specs.Rounds.{Round}
use Rattle.rounds.specs.Rates.{hours_of, IdleRound, NoIdleRound}

-- where idle is asked for, the legs take no hours
abbrev pub IdleIf : Bool → Meaning → List ℕ → Type 0
IdleIf idle m ns = idle ≡ true → hours_of m ns ≡ 0

-- a round in front of a buffer, idle where that is asked for; or there is no such closed walk
abbrev pub BareFound : Meaning → Bool → List ℕ → Option ℕ → Type 0
BareFound m idle buffer (Some n) = (n ≤ m.ports) × Round m (take n buffer) × IdleIf idle m (take n buffer)
BareFound m idle buffer None = (ns : List ℕ) → ClosedWalk m ns → IdleIf idle m ns → ⊥

-- a round in front of a buffer; or the chart has none, and no closed walk either
abbrev pub SomeRound : Meaning → List ℕ → Option ℕ → Type 0
SomeRound m buffer (Some n) = (n ≤ m.ports) × Round m (take n buffer)
SomeRound m buffer None = (ns : List ℕ) → ClosedWalk m ns → ⊥

-- whether there is an idle round
abbrev pub TellsIdle : Meaning → Bool → Type 0
TellsIdle m true = (ns : List ℕ) × IdleRound m ns
TellsIdle m false = NoIdleRound m
