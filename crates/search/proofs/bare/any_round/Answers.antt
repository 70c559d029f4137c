use Rattle.search.proofs.BareCharts.{some_round}
use Rattle.search.proofs.bare.any_round.Goals as goal

pub returns : goal.returns
returns g c = record {
  found = some_round (g.C.Chart.meaning c.args.chart.now) _ _ c.find_bare.ensures.found;
  numbers = c.find_bare.ensures.numbers;
}
