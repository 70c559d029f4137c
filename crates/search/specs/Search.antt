-- A cheaper round found by layers, and how that ends. Assumes nothing.
use Rattle.std.specs.Prelude.{◌≡◌, ℕ, ◌+◌, ◌*◌, ◌<◌, ◌≤◌, true, List, length, take, Some, None, Option}
use Rattle.rows.specs.Rows.{Row}
use Rattle.rows.specs.Kinds.{Kind, cheaper}
use Rattle.costs.specs.declared.rate.Rate.{Rate}
use Rattle.charts.specs.Meaning.{Meaning}
use Rattle.rounds.specs.Rounds.{Round}
use Rattle.rounds.specs.Rates.{Best}
use Rattle.rounds.specs.Marks.{Mark}
use Rattle.rounds.specs.Layers.{Layers}
use Rattle.rounds.specs.WalksBack.{LoweredIn}
use Rattle.pricing.specs.Totals.{Totals}
use Rattle.search.specs.declared.round.Held.{Held}
use Rattle.search.specs.Layer.{row_at, weights, Copied}
use Rattle.search.specs.Area.{number_places}
use Rattle.search.specs.Predecessors.{pred_at}

-- the part of the work area that a search uses: two layers of costs, a row for the ports seen, the table of predecessors, and a buffer for a round
pub record Area {K : Type 0} (ports : ℕ) (costs : List K) (seen table round : List ℕ) : Type 0 where
  pub two_layers : length costs ≡ ports + ports
  pub one_row : length seen ≡ ports
  pub rows : length table ≡ ports * ports
  pub places : ports ≤ length round

-- the same with the numbers whole
pub record WholeArea {K : Type 0} (ports : ℕ) (costs : List K) (numbers round : List ℕ) : Type 0 where
  pub two_layers : length costs ≡ ports + ports
  pub rows : length numbers ≡ number_places ports
  pub places : ports ≤ length round

-- cut into parts: two layers of costs, a row for the ports seen, the table of predecessors, and the buffer
pub record Parts {K : Type 0} (ports : ℕ) (costs next : List K) (seen table round : List ℕ) : Type 0 where
  pub one_layer : length costs ≡ ports
  pub next_layer : length next ≡ ports
  pub one_row : length seen ≡ ports
  pub rows : length table ≡ ports * ports
  pub places : ports ≤ length round

-- the costs are layer top, next a copy of it, and the table has the predecessors of layers 1 to top
pub record Climbed {K : Type 0} (k : Kind) (row : K → Row) (m : Meaning) (rate : Rate K) (table : List ℕ) (costs next : List K) (top : ℕ) : Type 0 where
  pub layers : Layers k m (weights row m rate) (pred_at m.ports table) top
  pub reached : (v : ℕ) → v < m.ports → layers.row top v ≡ row_at row costs v
  pub copied : Copied row m.ports costs next
  pub one_layer : length costs ≡ m.ports
  pub next_layer : length next ≡ m.ports
  pub rows : length table ≡ m.ports * m.ports
  pub few : top ≤ m.ports

-- layer top made some port lower
abbrev pub SomeLowered : Meaning → List ℕ → ℕ → Type 0
SomeLowered m table top = (v : ℕ) × LoweredIn m (pred_at m.ports table) top v

-- no closed walk is cheaper, and the costs front holds the marks
pub record Least {K : Type 0} (k : Kind) (row : K → Row) (m : Meaning) (rate : Rate K) (costs : List K) : Type 0 where
  pub best : Best k m (row rate.cost) rate.hours
  pub marks : (v : ℕ) → v < m.ports → Mark k m (row rate.cost) rate.hours v (row_at row costs v)

-- a round stands in front of a buffer, and its rate is at hand
pub record Holds {K : Type 0} (row : K → Row) (m : Meaning) (buffer : List ℕ) (h : Held K) : Type 0 where
  pub few : h.legs ≤ m.ports
  pub round : Round m (take h.legs buffer)
  pub totals : Totals row m (take h.legs buffer) h.rate.cost h.rate.hours

-- and it is cheaper than a rate
pub record Cheaper {K : Type 0} (k : Kind) (row : K → Row) (m : Meaning) (rate : Rate K) (buffer : List ℕ) (h : Held K) : Type 0 where
  pub holds : Holds row m buffer h
  pub cheaper_than : cheaper k (row h.rate.cost) h.rate.hours (row rate.cost) rate.hours ≡ true

-- how it ends: a cheaper round, whichever; or there is none, and the buffer is as it was
abbrev pub Searched : {K : Type 0} → Kind → (K → Row) → Meaning → Rate K → List K → List ℕ → List ℕ → Option (Held K) → Type 0
Searched k row m rate costs was buffer (Some h) = Cheaper k row m rate buffer h
Searched k row m rate costs was buffer None = (buffer ≡ was) × Least k row m rate costs
