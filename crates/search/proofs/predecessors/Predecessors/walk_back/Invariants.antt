use Rattle.std.proofs.Common.{◌-◌}
use Rattle.search.specs.Back.{Walking}
use Rattle.search.proofs.predecessors.Predecessors.walk_back.Given as goal

abbrev pub invariant-loop-left : goal.invariant-loop-left
invariant-loop-left g l = Walking (g.C.Chart.meaning l.self.chart.now) l.self.width l.self.numbers.now l.self.layers l.port l.seen (l.self.layers - l.left) l.at
