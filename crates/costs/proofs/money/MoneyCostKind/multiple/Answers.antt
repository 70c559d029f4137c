use Rattle.std.proofs.Common.{rules}
use Rattle.std.proofs.lemmas.Int.{to_z-of_z}
use Rattle.rows.proofs.Places.{one_times}
use Rattle.costs.proofs.money.MoneyCostKind.multiple.Goals as goal

pub returns : goal.returns
returns c = search (rules, to_z-of_z, one_times, c.multiple_of.ensures)
