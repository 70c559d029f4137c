-- Rounds: closed walks that leave no port twice, written from the lowest leg number. Assumes nothing.
use Rattle.std.specs.Prelude.{◌≡◌, ℕ, true, List, map}
use Rattle.charts.specs.Meaning.{Meaning}
use Rattle.rounds.specs.Legs.{leaves}
use Rattle.rounds.specs.Lists.{each_once, LowestFirst}
use Rattle.rounds.specs.Walks.{ClosedWalk}

-- a closed walk that leaves each of its ports once and begins with its lowest number
pub record Round (m : Meaning) (ns : List ℕ) : Type 0 where
  pub closed : ClosedWalk m ns
  pub once : each_once (map (leaves m) ns) ≡ true
  pub lowest : LowestFirst ns
