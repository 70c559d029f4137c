use Rattle.std.proofs.Common.{◌+◌, sym, subst}
use Rattle.search.specs.Look.{LookedFrom}
use Rattle.search.proofs.Looking.{known_more, looked_known, looked_none}
use Rattle.search.proofs.predecessors.Predecessors.cheapest_repeat.Goals as goal
use Rattle.search.proofs.predecessors.Predecessors.cheapest_repeat.Goals.{in-Some, in_default}

pub loop-port-preserved : goal.loop-port-preserved
loop-port-preserved g c =
    let s = c.args.self.now in
    let row = g.C.Cost.CostKind.row in
    let m = g.C.Chart.meaning s.chart.now in
    let x = c.loop-port.port in
    let best = c.loop-port.best in
    let Looked = LookedFrom row m s.width s.numbers.now s.layers (x + 1) in
    elim c.match-repeat_from.branch [
      | in-Some w ↦ subst Looked (sym w.best-is) (known_more row m s.width s.numbers.now s.layers best _ _ (looked_known row m s.width s.numbers.now s.layers x best c.loop-port.invariant) w.in-Some.ensures w.cheaper_of.ensures)
      | in_default w ↦ subst Looked (sym w.best-is) (looked_none row m s.width s.numbers.now s.layers x best c.loop-port.invariant w.in_default.ensures)
    ]
