use Rattle.rows.proofs.Places.{one_zero}
use Rattle.costs.proofs.money.MoneyCostKind.zero.Goals as goal

pub returns : goal.returns
returns c = one_zero
