use Rattle.std.proofs.Common.{◌≤◌, length, take, sym, arith, length-take, get_or-take}
use lib.ListN.{get_or-eq_default}
use Rattle.limits.specs.Numbers.{most_legs}
use Rattle.charts.proofs.grid.hours_under.Goals as goal

pub returns-then-n-lt-MOST_LEGS-clause-value : goal.returns-then-n-lt-MOST_LEGS-clause-value
returns-then-n-lt-MOST_LEGS-clause-value c = sym (get_or-take most_legs c.args.hours.now c.args.n 0 (omega arith))

pub returns-else-n-hours-clause-value : goal.returns-else-n-hours-clause-value
returns-else-n-hours-clause-value c =
    let past : length (take most_legs c.args.hours.now) ≤ c.args.n = omega (arith, length-take most_legs c.args.hours.now) in
    sym (get_or-eq_default _ 0 past)
