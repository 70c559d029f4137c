-- Two layers: the one reached, and the next one, made from it by trying every leg. Assumes nothing.
use Rattle.std.specs.Prelude.{◌≡◌, ℕ, ◌*◌, ◌<◌, ◌≤◌, Bool, true, false, List, map, length, slice_index, slice_index_or}
use Rattle.rows.specs.Rows.{Row, zero_row}
use Rattle.rows.specs.Kinds.{Kind}
use Rattle.costs.specs.declared.rate.Rate.{Rate}
use Rattle.charts.specs.Meaning.{Meaning, Within}
use Rattle.rounds.specs.Rates.{leg_weight}
use Rattle.rounds.specs.Layers.{Relaxed}
use Rattle.rounds.specs.Sizes.{SmallRate, most_leg_weight}

-- the row that stands at a place
unfoldable pub row_at : {K : Type 0} → (K → Row) → List K → ℕ → Row
row_at row costs i = slice_index_or (map row costs) i zero_row

-- what each leg weighs against a rate
abbrev pub weights : {K : Type 0} → (K → Row) → Meaning → Rate K → ℕ → Row
weights row m rate n = leg_weight m (row rate.cost) rate.hours n

-- a chart within its limits, and a rate that a round can have
pub record Ready {K : Type 0} (k : Kind) (row : K → Row) (m : Meaning) (rate : Rate K) : Type 0 where
  pub within : Within k m
  pub small_rate : SmallRate k (row rate.cost) rate.hours

-- small enough for the weight of one leg more
abbrev pub SmallLayer : {K : Type 0} → Kind → (K → Row) → ℕ → List K → Type 0
SmallLayer k row ports costs = (v : ℕ) → v < ports → k.size (row_at row costs v) ≤ 255 * most_leg_weight

-- the two layers are the same
abbrev pub Copied : {K : Type 0} → (K → Row) → ℕ → List K → List K → Type 0
Copied row ports costs next = (v : ℕ) → v < ports → row_at row next v ≡ row_at row costs v

-- a small layer, and a copy of it
pub record LayerCopied {K : Type 0} (k : Kind) (row : K → Row) (m : Meaning) (costs next : List K) : Type 0 where
  pub one_layer : length costs ≡ m.ports
  pub next_layer : length next ≡ m.ports
  pub small : SmallLayer k row m.ports costs
  pub copied : Copied row m.ports costs next

-- the legs numbered below n were tried: preds has the predecessor of each port made lower, and improved tells whether there is any
pub record Relaxing {K : Type 0} (k : Kind) (row : K → Row) (m : Meaning) (rate : Rate K) (costs next : List K) (preds : List ℕ) (n : ℕ) (improved : Bool) : Type 0 where
  pub one_layer : length costs ≡ m.ports
  pub next_layer : length next ≡ m.ports
  pub one_row : length preds ≡ m.ports
  pub small : SmallLayer k row m.ports costs
  pub relaxed : Relaxed k m (weights row m rate) (row_at row costs) (row_at row next) (λ v. slice_index preds v) n
  pub some : improved ≡ true → (v : ℕ) × (v < m.ports) × (0 < slice_index preds v)
  pub none : improved ≡ false → (v : ℕ) → v < m.ports → slice_index preds v ≡ 0

-- every leg was tried
abbrev pub LayerRelaxed : {K : Type 0} → Kind → (K → Row) → Meaning → Rate K → List K → List K → List ℕ → Bool → Type 0
LayerRelaxed k row m rate costs next preds improved = Relaxing k row m rate costs next preds (length m.entries) improved
