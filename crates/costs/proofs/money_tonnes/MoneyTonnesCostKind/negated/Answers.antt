use Rattle.std.proofs.Common.{rules}
use Rattle.rows.proofs.Places.{two_negative}
use Rattle.costs.proofs.money_tonnes.MoneyTonnesCostKind.negated.Goals as goal

pub returns : goal.returns
returns c = search (rules, two_negative)
