-- What a leg offers to the port that it reaches. Assumes nothing.
use Rattle.std.specs.Prelude.{ℕ, List}
use Rattle.rows.specs.Rows.{Row, sum, negative, times}
use Rattle.costs.specs.declared.rate.Rate.{Rate}
use Rattle.charts.specs.Meaning.{Figures}
use Rattle.search.specs.Layer.{row_at}

-- the weight of a leg against cost c in t hours
abbrev pub weighed : Figures → Row → ℕ → Row
weighed f c t = sum (times t f.cost) (negative (times f.hours c))

-- what the layer has at the port that the leg leaves, and the weight of the leg
abbrev pub offered : {K : Type 0} → (K → Row) → List K → Rate K → Figures → Row
offered row costs rate f = sum (row_at row costs f.from) (weighed f (row rate.cost) rate.hours)
