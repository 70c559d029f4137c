use Rattle.std.proofs.Common.{arith}
use Rattle.rows.specs.Orders.{by_dollars}
use Rattle.rows.specs.Rows.{one_place}
use Rattle.charts.proofs.Grids.{grid_within}
use Rattle.charts.proofs.grid.GridChartChart.ports.Goals as goal

pub returns-clause-within : goal.returns-clause-within
returns-clause-within c = let s = c.args.self.now in grid_within by_dollars s.ports (one_place s.cost.dollars) s.hours.now s.some (omega (arith, s.few))
