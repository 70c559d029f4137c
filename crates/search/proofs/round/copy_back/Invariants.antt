use Rattle.std.proofs.Common.{◌-◌, ◌≤◌}
use Rattle.search.specs.Round.{Copying}
use Rattle.search.proofs.round.copy_back.Given as goal

abbrev pub invariant-loop-layer : goal.invariant-loop-layer
invariant-loop-layer g l = record {
  copying : Copying (g.C.Chart.meaning l.chart) l.width l.table l.fn.repeat (l.fn.repeat.layer - l.layer) l.out l.at;
  left : l.fn.repeat.layer - l.fn.repeat.legs ≤ l.layer;
}
