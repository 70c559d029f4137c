use Rattle.rows.proofs.Places.{two_zero}
use Rattle.costs.proofs.money_tonnes.MoneyTonnesCostKind.zero.Goals as goal

pub returns : goal.returns
returns c = two_zero
