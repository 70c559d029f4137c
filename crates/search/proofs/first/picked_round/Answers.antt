use Rattle.search.proofs.Picking.{picks_led, written_round}
use Rattle.search.proofs.first.picked_round.Goals as goal

pub invariant_of-picks : goal.invariant_of-picks
invariant_of-picks g c = let ports = c.ports-ports.ensures in record { led = picks_led ports.within c.pick_legs.ensures c.ports-ports.result ports.value }

pub returns : goal.returns
returns g c = let ports = c.ports-ports.ensures in written_round (picks_led ports.within c.pick_legs.ensures c.ports-ports.result ports.value) c.write_found.ensures
