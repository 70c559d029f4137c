use Rattle.std.proofs.Common.{rules}
use Rattle.std.proofs.lemmas.Int.{to_z-of_z}
use Rattle.rows.proofs.Places.{one_sum}
use Rattle.costs.proofs.money.MoneyCostKind.plus.Goals as goal

pub returns : goal.returns
returns c = search (rules, to_z-of_z, one_sum, c.sum_of.ensures)
