-- The rounds found in a layer. Assumes nothing.
use Rattle.std.specs.Prelude.{◌≡◌, ℕ, ◌<◌, List, take, Some, None, Option}
use Rattle.rows.specs.Rows.{Row}
use Rattle.charts.specs.Meaning.{Meaning}
use Rattle.rounds.specs.Lists.{Turned}
use Rattle.pricing.specs.Totals.{Totals}
use Rattle.search.specs.declared.look.Found.{Found}
use Rattle.search.specs.declared.round.Held.{Held}
use Rattle.search.specs.Back.{OnTheWay, Repeats, legs_of}

-- a first repeat, with its rate
pub record Known {K : Type 0} (row : K → Row) (m : Meaning) (width : ℕ) (table : List ℕ) (top : ℕ) (f : Found K) : Type 0 where
  pub repeats : Repeats m width table top f.repeat
  pub totals : Totals row m (legs_of m width table f.repeat) f.rate.cost f.rate.hours

-- where something was found, it is a first repeat
abbrev pub KnownIf : {K : Type 0} → (K → Row) → Meaning → ℕ → List ℕ → ℕ → Option (Found K) → Type 0
KnownIf row m width table top (Some f) = Known row m width table top f
KnownIf row m width table top None = Unit {0}

-- what the walk back from x found: where it is nothing, and each port on the way has a predecessor, there are more ports than layers
abbrev pub FoundFrom : {K : Type 0} → (K → Row) → Meaning → ℕ → List ℕ → ℕ → ℕ → Option (Found K) → Type 0
FoundFrom row m width table top x (Some f) = Known row m width table top f
FoundFrom row m width table top x None = OnTheWay m width table top x top → top < m.ports

-- what the walks back from the ports numbered below v found
abbrev pub LookedFrom : {K : Type 0} → (K → Row) → Meaning → ℕ → List ℕ → ℕ → ℕ → Option (Found K) → Type 0
LookedFrom row m width table top v (Some f) = Known row m width table top f
LookedFrom row m width table top v None = (x : ℕ) → x < v → OnTheWay m width table top x top → top < m.ports

-- a first repeat stands in front of a buffer, turned to its lowest number
pub record Written {K : Type 0} (row : K → Row) (m : Meaning) (width : ℕ) (table : List ℕ) (top : ℕ) (buffer : List ℕ) (h : Held K) : Type 0 where
  pub found : Found K
  pub known : Known row m width table top found
  pub legs_are : h.legs ≡ found.repeat.legs
  pub rate_is : h.rate ≡ found.rate
  pub turned : Turned (legs_of m width table found.repeat) (take h.legs buffer)

-- what a look at layer top finds; where it is nothing the buffer is as it was
abbrev pub Looked : {K : Type 0} → (K → Row) → Meaning → ℕ → List ℕ → ℕ → List ℕ → List ℕ → Option (Held K) → Type 0
Looked row m width table top was buffer (Some h) = Written row m width table top buffer h
Looked row m width table top was buffer None = (buffer ≡ was) × ((x : ℕ) → x < m.ports → OnTheWay m width table top x top → top < m.ports)
