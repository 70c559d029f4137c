use Rattle.std.proofs.Common.{◌+◌, arith, length-take}
use Rattle.limits.specs.Numbers.{most_legs}
use Rattle.rows.specs.Orders.{by_dollars}
use Rattle.rows.specs.Rows.{one_place}
use Rattle.charts.proofs.Grids.{length_grid}
use Rattle.charts.proofs.grid.GridChartChart.count.Goals as goal

pub returns : goal.returns
returns c = let s = c.args.self.now in
    omega (arith, length_grid by_dollars s.ports (one_place s.cost.dollars) s.hours.now, length-take most_legs s.hours.now)
