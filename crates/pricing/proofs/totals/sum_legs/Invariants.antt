use Rattle.pricing.specs.Totals.{SummedIfFew}
use Rattle.pricing.proofs.totals.sum_legs.Given as goal

abbrev pub invariant-loop-number : goal.invariant-loop-number
invariant-loop-number g l = SummedIfFew g.C.Cost.CostKind.kind g.C.Cost.CostKind.row (g.C.Chart.meaning l.chart) l.numbers l.number-index l.sum.cost l.sum.hours
