use Rattle.rounds.specs.Measure.{cheaper_count}
use Rattle.search.specs.Improve.{Improving}
use Rattle.search.proofs.improve.least_round.Given as goal

abbrev pub invariant-loop-held : goal.invariant-loop-held
invariant-loop-held g l = let k = g.C.Cost.CostKind in Improving k.kind k.row (g.C.Chart.meaning l.chart) l.fn.start l.initial.round l.rate l.round l.found

abbrev pub decreases-loop-held : goal.decreases-loop-held
decreases-loop-held g l = let k = g.C.Cost.CostKind in cheaper_count k.kind (g.C.Chart.meaning l.chart) (k.row l.rate.cost) l.rate.hours
