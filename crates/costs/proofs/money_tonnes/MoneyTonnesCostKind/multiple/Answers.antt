use Rattle.std.proofs.Common.{◌*◌, ◌≤◌, nat_abs, le_trans, mul-le-mul_left, arith, rules}
use Rattle.limits.specs.Numbers.{exact_size}
use Rattle.rows.proofs.Places.{two_times}
use Rattle.costs.proofs.money_tonnes.MoneyTonnesCostKind.multiple.Goals as goal

pub returns : goal.returns
returns c = λ small all.
    let d : c.args.n * nat_abs c.args.self.dollars ≤ exact_size = le_trans (mul-le-mul_left c.args.n (omega arith)) all in
    let t : c.args.n * nat_abs c.args.self.tonnes ≤ exact_size = le_trans (mul-le-mul_left c.args.n (omega arith)) all in
    search (rules, two_times)
