-- Walks back through the table of predecessors while no port has come again. Assumes nothing.
use Rattle.std.specs.Prelude.{◌≡◌, ℕ, suc, ◌-◌, ◌<◌, ◌≤◌, List, length, Some, None, Option, slice_index, slice_index_or}
use Rattle.charts.specs.Meaning.{Meaning}
use Rattle.rounds.specs.WalksBack.{port_back, legs_back, FirstRepeat}
use Rattle.search.specs.declared.back.Repeat.{Repeat}
use Rattle.search.specs.Predecessors.{pred_at}

-- each port that the walk back from x in layer top comes to within c legs has a predecessor
abbrev pub OnTheWay : Meaning → ℕ → List ℕ → ℕ → ℕ → ℕ → Type 0
OnTheWay m width table top x c = (a : ℕ) → a < c → (port_back m (pred_at width table) a top x < m.ports) × (0 < pred_at width table (top - suc a) (port_back m (pred_at width table) a top x))

-- c legs back from x in layer top no port has come twice: seen tells in which layer each came
pub record Walking (m : Meaning) (width : ℕ) (table : List ℕ) (top x : ℕ) (seen : List ℕ) (c at : ℕ) : Type 0 where
  pub is : at ≡ port_back m (pred_at width table) c top x
  pub long : length seen ≡ m.ports
  pub marked : (a : ℕ) → a < c → slice_index seen (port_back m (pred_at width table) a top x) ≡ top - a
  pub fresh : slice_index_or seen at 0 ≡ 0
  pub others : (u : ℕ) → u < m.ports → 0 < slice_index seen u → (a : ℕ) × (a < c) × (port_back m (pred_at width table) a top x ≡ u)
  pub way : OnTheWay m width table top x c
  pub port : at < m.ports

-- the legs lead back from a port in a layer to that port, and to no port twice before
pub record Repeats (m : Meaning) (width : ℕ) (table : List ℕ) (top : ℕ) (r : Repeat) : Type 0 where
  pub deep : r.layer ≤ top
  pub first : FirstRepeat m (pred_at width table) r.legs r.layer r.port
  pub way : OnTheWay m width table r.layer r.port r.legs

-- those legs
abbrev pub legs_of : Meaning → ℕ → List ℕ → Repeat → List ℕ
legs_of m width table r = legs_back m (pred_at width table) r.legs r.layer r.port

-- what a walk back from x finds: a port that comes again, and always one where each port on the way has a predecessor and there are as many layers as ports
abbrev pub Walked : Meaning → ℕ → List ℕ → ℕ → ℕ → Option Repeat → Type 0
Walked m width table top x (Some r) = Repeats m width table top r
Walked m width table top x None = OnTheWay m width table top x top → top < m.ports
