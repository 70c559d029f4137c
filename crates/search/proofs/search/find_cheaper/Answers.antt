use Rattle.std.proofs.Common.{arith}
use Rattle.search.proofs.Parts.{searched_front}
use Rattle.search.proofs.search.find_cheaper.Goals as goal

pub returns : goal.returns
returns g c = searched_front g.C.Cost.CostKind.kind g.C.Cost.CostKind.row (g.C.Chart.meaning c.args.chart.now) c.args.rate c.search_layers.new.costs c.search_layers.new.next _ _ (omega (arith, c.search_layers.auto.costs, c.split_at_mut-reached.ensures.front_len, c.ports-ports.ensures.value)) _ c.search_layers.ensures
