use Rattle.charts.proofs.Layers.{allowed_anywhere}
use Rattle.charts.proofs.layer.LayeredChart.entry.Goals as goal

pub pass-requires-clause-allowed : goal.pass-requires-clause-allowed
pass-requires-clause-allowed g c = allowed_anywhere g.C.Cost.CostKind.kind (g.C.Chart.meaning c.args.self.now.chart) c.args.n _ c.ports-ports.ensures.within c.in-Leg.ensures
