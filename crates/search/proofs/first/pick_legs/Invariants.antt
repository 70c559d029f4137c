use Rattle.search.specs.First.{Picked}
use Rattle.search.proofs.first.pick_legs.Given as goal

abbrev pub invariant-loop-n : goal.invariant-loop-n
invariant-loop-n g l = Picked (g.C.Chart.meaning l.chart) l.picks
