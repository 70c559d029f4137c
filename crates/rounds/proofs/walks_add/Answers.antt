use Rattle.rounds.proofs.Theorems.{walks_add_lem}
use Rattle.rounds.proofs.walks_add.Goals as goal

pub returns : goal.returns
returns c = walks_add_lem
