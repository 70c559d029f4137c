use Rattle.search.proofs.BareCharts.{bare_limits}
use Rattle.search.proofs.bare.BareChart.ports.Goals as goal

pub returns-clause-within : goal.returns-clause-within
returns-clause-within g c = let s = c.args.self.now in bare_limits g.C.Cost.CostKind.kind (g.C.Chart.meaning s.chart.now) c.ports.ensures.within s.idle
