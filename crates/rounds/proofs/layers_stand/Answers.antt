use Rattle.rounds.proofs.SearchTheorems.{layers_stand_lem}
use Rattle.rounds.proofs.layers_stand.Goals as goal

pub returns : goal.returns
returns c = layers_stand_lem
