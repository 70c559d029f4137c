-- The lent work area: so many places for a chart of so many ports, and past them it stays as it was. Assumes nothing.
use Rattle.std.specs.Prelude.{◌≡◌, ℕ, ◌+◌, ◌*◌, ◌<◌, ◌≤◌, List, length, drop}
use Rattle.rows.specs.Rows.{Row, zero_row}
use Rattle.search.specs.Layer.{row_at}

-- the costs, and the numbers, that may be used
abbrev pub cost_places : ℕ → ℕ
cost_places ports = 3 * ports

abbrev pub number_places : ℕ → ℕ
number_places ports = (ports + 1) * ports

-- the area is large enough, and so is the buffer for a round
pub record Lent {K : Type 0} (ports : ℕ) (costs : List K) (numbers round : List ℕ) : Type 0 where
  pub costs_suffice : cost_places ports ≤ length costs
  pub numbers_suffice : number_places ports ≤ length numbers
  pub round_suffices : ports ≤ length round

-- past so many places nothing changed
abbrev pub RestStays : {A : Type 0} → ℕ → List A → List A → Type 0
RestStays n old new = drop n new ≡ drop n old

-- zero up to so many places, and past them nothing changed
pub record Zeroed {K : Type 0} (row : K → Row) (n : ℕ) (old new : List K) : Type 0 where
  pub zeros : (i : ℕ) → i < n → row_at row new i ≡ zero_row
  pub rest : RestStays n old new
