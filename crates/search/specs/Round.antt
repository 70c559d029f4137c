-- The legs of a repeat, summed and written down. Assumes nothing.
use Rattle.std.specs.Prelude.{◌≡◌, ℕ, suc, ◌+◌, ◌-◌, ◌*◌, ◌<◌, ◌≤◌, true, List, length, drop}
use Rattle.rows.specs.Rows.{Row}
use Rattle.rows.specs.Kinds.{Kind}
use Rattle.charts.specs.Meaning.{Meaning, Within}
use Rattle.rounds.specs.Legs.{there}
use Rattle.rounds.specs.Walks.{Walk}
use Rattle.rounds.specs.WalksBack.{port_back, legs_back}
use Rattle.pricing.specs.Totals.{Totals}
use Rattle.search.specs.declared.back.Repeat.{Repeat}
use Rattle.search.specs.Predecessors.{pred_at}

-- every leg of a repeat stands in the table, and is there
pub record Traced (k : Kind) (m : Meaning) (width : ℕ) (table : List ℕ) (r : Repeat) : Type 0 where
  pub within : Within k m
  pub some : 0 < r.legs
  pub deep : r.legs ≤ r.layer
  pub few : r.legs ≤ m.ports
  pub stands : (a : ℕ) → a < r.legs → (r.layer - suc a) * width + port_back m (pred_at width table) a r.layer r.port < length table
  pub made : (a : ℕ) → a < r.legs → 0 < pred_at width table (r.layer - suc a) (port_back m (pred_at width table) a r.layer r.port)
  pub is_there : (a : ℕ) → a < r.legs → there m (pred_at width table (r.layer - suc a) (port_back m (pred_at width table) a r.layer r.port) - 1) ≡ true
  pub leads : (a : ℕ) → a ≤ r.legs → Walk m (port_back m (pred_at width table) a r.layer r.port) (legs_back m (pred_at width table) a r.layer r.port) r.port

-- what the last c legs cost and take, and the port to which they lead back
pub record Summing {K : Type 0} (row : K → Row) (m : Meaning) (width : ℕ) (table : List ℕ) (r : Repeat) (c : ℕ) (cost : K) (hours at : ℕ) : Type 0 where
  pub totals : Totals row m (legs_back m (pred_at width table) c r.layer r.port) cost hours
  pub at_is : at ≡ port_back m (pred_at width table) c r.layer r.port

-- the last c legs stand at the end of a buffer
pub record Copying (m : Meaning) (width : ℕ) (table : List ℕ) (r : Repeat) (c : ℕ) (out : List ℕ) (at : ℕ) : Type 0 where
  pub long : length out ≡ r.legs
  pub done : drop (r.legs - c) out ≡ legs_back m (pred_at width table) c r.layer r.port
  pub at_is : at ≡ port_back m (pred_at width table) c r.layer r.port
