use Rattle.rounds.proofs.Legs.{legs_join_ports}
use Rattle.rounds.proofs.Theorems.{ports_bound}
use Rattle.rounds.proofs.ports_bound_walks.Goals as goal

pub returns : goal.returns
returns c = record { limits = legs_join_ports; bound = ports_bound }
