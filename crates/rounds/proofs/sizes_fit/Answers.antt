use Rattle.rounds.proofs.SearchTheorems.{sizes_fit_lem}
use Rattle.rounds.proofs.sizes_fit.Goals as goal

pub returns : goal.returns
returns c = sizes_fit_lem
