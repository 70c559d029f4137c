use Rattle.charts.proofs.Tables.{written_within}
use Rattle.charts.proofs.written.WrittenChartChart.ports.Goals as goal

pub returns-clause-within : goal.returns-clause-within
returns-clause-within g c = let s = c.args.self.now in written_within g.K.CostKind.kind g.K.CostKind.row s.ports s.table.now s.some s.few
