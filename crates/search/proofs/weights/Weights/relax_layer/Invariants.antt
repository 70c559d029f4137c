use Rattle.search.specs.Layer.{Relaxing}
use Rattle.search.proofs.weights.Weights.relax_layer.Given as goal

abbrev pub invariant-loop-n : goal.invariant-loop-n
invariant-loop-n g l = let k = g.C.Cost.CostKind in Relaxing k.kind k.row (g.C.Chart.meaning l.self.chart.now) l.self.rate l.costs l.next l.preds l.n l.improved
