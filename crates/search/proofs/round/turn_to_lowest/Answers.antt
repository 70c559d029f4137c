use Rattle.search.proofs.Turning.{turned_at}
use Rattle.search.proofs.round.turn_to_lowest.Goals as goal

pub returns : goal.returns
returns c = turned_at c.args.numbers.now c.rotate_left.new.self c.lowest_place-place.result c.lowest_place-place.ensures.place c.lowest_place-place.ensures.lowest c.rotate_left.ensures.after
