use Rattle.std.proofs.Common.{◌≡◌, ◌<◌}
use Rattle.search.specs.Search.{Climbed}
use Rattle.search.proofs.weights.Weights.search_layers.Given as goal

abbrev pub invariant-loop-layer : goal.invariant-loop-layer
invariant-loop-layer g l =
    let k = g.C.Cost.CostKind in
    record {
      climbed : Climbed k.kind k.row (g.C.Chart.meaning l.self.chart.now) l.self.rate l.table l.costs l.next l.layer;
      more : l.layer < (g.C.Chart.meaning l.self.chart.now).ports;
      round : l.round ≡ l.initial.round;
    }
