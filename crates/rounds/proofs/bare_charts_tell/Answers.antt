use Rattle.rounds.proofs.Bare.{less_one_dollars, less_one_tonnes}
use Rattle.rounds.proofs.SearchTheorems.{bare_tells}
use Rattle.rounds.proofs.bare_charts_tell.Goals as goal

pub returns : goal.returns
returns c = record { tells = bare_tells; dollars = less_one_dollars; tonnes = less_one_tonnes }
