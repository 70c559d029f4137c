use Rattle.rounds.proofs.SearchTheorems.{walks_back}
use Rattle.rounds.proofs.walks_back_find.Goals as goal

pub returns : goal.returns
returns c = walks_back
