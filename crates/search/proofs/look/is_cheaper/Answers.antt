use Rattle.std.proofs.Common.{arith}
use Rattle.rounds.proofs.Sizes.{across_size}
use Rattle.search.proofs.look.is_cheaper.Goals as goal

pub returns : goal.returns
returns g c = λ s t. c.is_cheaper_than.ensures (omega (arith, s.small_cost)) (omega (arith, t.small_cost)) (across_size g.K.CostKind.kind _ _ _ _ s t) (across_size g.K.CostKind.kind _ _ _ _ t s)
