use Rattle.rows.proofs.Multiples.{consequences}
use Rattle.costs.proofs.kind.kind_keeps_laws.Goals as goal

pub returns-clause-consequences : goal.returns-clause-consequences
returns-clause-consequences g c = let k = g.K.CostKind in consequences k.kind k.lawful
