use Rattle.std.proofs.Common.{refl}
use Rattle.search.specs.Predecessors.{pred_at}
use Rattle.search.proofs.predecessors.number_at.Goals as goal

pub returns : goal.returns
unfolding pred_at
returns c = refl
