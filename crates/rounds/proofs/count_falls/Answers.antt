use Rattle.rounds.proofs.SearchTheorems.{count_falls_lem}
use Rattle.rounds.proofs.count_falls.Goals as goal

pub returns : goal.returns
returns c = count_falls_lem
