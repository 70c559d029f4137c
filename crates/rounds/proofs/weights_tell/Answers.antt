use Rattle.rounds.proofs.Weights.{weight_tells}
use Rattle.rounds.proofs.weights_tell.Goals as goal

pub returns : goal.returns
returns c = λ k laws m c₁ t ns. weight_tells m c₁ t k laws ns
