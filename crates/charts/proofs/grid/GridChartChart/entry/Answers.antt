use Rattle.std.proofs.Common.{◌+◌, sym, ap, ◌∙◌}
use Rattle.rows.specs.Orders.{by_dollars}
use Rattle.rows.specs.Rows.{one_place}
use Rattle.charts.specs.Grid.{hours_shown}
use Rattle.charts.specs.Limits.{limited}
use Rattle.charts.proofs.Grids.{shown_hours, some_hours}
use Rattle.charts.proofs.grid.GridChartChart.entry.Goals as goal

pub returns-then-hours-eq0 : goal.returns-then-hours-eq0
returns-then-hours-eq0 c = let s = c.args.self.now in
    ap (hours_shown by_dollars s.ports (one_place s.cost.dollars) c.args.n) (sym c.if-hours-eq0.true)
    ∙ shown_hours by_dollars s.ports (one_place s.cost.dollars) s.hours.now c.args.n c.hours_under-hours.result c.hours_under-hours.ensures.value

pub returns : goal.returns
returns c = let s = c.args.self.now in
    c.limited_entry.ensures
    ∙ (λ i. limited by_dollars s.ports (record { from = c.ends-from.ensures.0 i; to = c.ends-from.ensures.1 i; hours = c.hours_under-hours.result; cost = one_place s.cost.dollars }))
    ∙ some_hours by_dollars s.ports (one_place s.cost.dollars) c.args.n c.hours_under-hours.result c.if-hours-eq0.false
    ∙ shown_hours by_dollars s.ports (one_place s.cost.dollars) s.hours.now c.args.n c.hours_under-hours.result c.hours_under-hours.ensures.value
