use Rattle.std.proofs.Common.{rules}
use Rattle.search.proofs.Looking.{no_leg}
use Rattle.search.proofs.WalkingBack.{traced}
use Rattle.search.proofs.predecessors.Predecessors.repeat_from.Goals as goal

pub returns-in_default : goal.returns-in_default
returns-in_default g c =
    let s = c.args.self.now in
    no_leg (g.C.Chart.meaning s.chart.now) s.width s.numbers.now s.layers c.args.port c.requires.some c.in_default.ensures

pub sum_back-rate-requires : goal.sum_back-rate-requires
sum_back-rate-requires g c = search (rules, traced c.args.self.now.led)
