use Rattle.std.proofs.Common.{◌-◌, ◌≤◌}
use Rattle.search.specs.Round.{Summing}
use Rattle.search.proofs.round.sum_back.Given as goal

abbrev pub invariant-loop-layer : goal.invariant-loop-layer
invariant-loop-layer g l = record {
  summing : Summing g.C.Cost.CostKind.row (g.C.Chart.meaning l.chart) l.width l.table l.fn.repeat (l.fn.repeat.layer - l.layer) l.cost l.hours l.at;
  left : l.fn.repeat.layer - l.fn.repeat.legs ≤ l.layer;
}
