use Rattle.search.specs.Look.{LookedFrom}
use Rattle.search.proofs.predecessors.Predecessors.cheapest_repeat.Given as goal

abbrev pub invariant-loop-port : goal.invariant-loop-port
invariant-loop-port g l = LookedFrom g.C.Cost.CostKind.row (g.C.Chart.meaning l.self.chart.now) l.self.width l.self.numbers.now l.self.layers l.port l.best
