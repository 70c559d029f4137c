use Rattle.std.proofs.Common.{rules}
use Rattle.rows.proofs.Places.{two_sum}
use Rattle.costs.proofs.money_tonnes.MoneyTonnesCostKind.plus.Goals as goal

pub returns : goal.returns
returns c = search (rules, two_sum)
