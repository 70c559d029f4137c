use Rattle.rounds.proofs.Theorems.{kept_rounds_stand_lem}
use Rattle.rounds.proofs.kept_rounds_stand.Goals as goal

pub returns : goal.returns
returns c = kept_rounds_stand_lem
