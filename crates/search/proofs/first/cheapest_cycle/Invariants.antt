use Rattle.search.specs.Look.{KnownIf}
use Rattle.search.proofs.first.cheapest_cycle.Given as goal

abbrev pub invariant-loop-port : goal.invariant-loop-port
invariant-loop-port g l = KnownIf g.C.Cost.CostKind.row (g.C.Chart.meaning l.picks.chart.now) l.picks.width l.picks.numbers.now l.picks.layers l.best
