use Rattle.rows.proofs.Multiples.{consequences}
use Rattle.rows.proofs.laws_suffice.Goals as goal

pub returns : goal.returns
returns c = consequences
