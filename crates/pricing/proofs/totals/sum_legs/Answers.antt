use Rattle.std.proofs.Common.{ap, ◌∙◌}
use Rattle.charts.specs.Meaning.{Figures}
use Rattle.rounds.specs.Legs.{figures_at}
use Rattle.pricing.proofs.Summing.{summed_more}
use Rattle.pricing.proofs.totals.sum_legs.Goals as goal

pub loop-number-preserved : goal.loop-number-preserved
loop-number-preserved g c = λ few.
    let k = g.C.Cost.CostKind in
    let m = g.C.Chart.meaning c.args.chart.now in
    let read = c.leg_at.ensures ∙ ap (figures_at m) c.from.ensures in
    summed_more k.kind k.lawful m c.requires k.row c.args.numbers.now c.loop-number.number-index
    c.leg_at.result.hours c.loop-number.sum.cost c.leg_at.result.cost c.with_leg-sum.result.cost c.loop-number.sum.hours c.with_leg-sum.result.hours
    c.loop-number-test.true few (c.loop-number.invariant few) (ap (λ (f : Figures). f.cost) read) (ap (λ (f : Figures). f.hours) read) c.with_leg-sum.ensures.cost c.with_leg-sum.ensures.hours
