use Rattle.charts.proofs.Layers.{layered_within}
use Rattle.charts.proofs.layer.LayeredChart.ports.Goals as goal

pub returns-then-is_accepted-clause-within : goal.returns-then-is_accepted-clause-within
returns-then-is_accepted-clause-within g c = let s = c.args.self.now in
    layered_within g.C.Cost.CostKind.kind (g.L.Layer.becomes s.layer) _ (g.C.Chart.meaning s.chart) c.if-is_accepted.ensures c.ports.ensures.within
