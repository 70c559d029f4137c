use Rattle.charts.specs.Reading.{figures_of}
use Rattle.search.specs.Offer.{weighed}
use Rattle.search.proofs.Weighing.{offer_is}
use Rattle.search.proofs.offer.leg_offer.Goals as goal

pub returns : goal.returns
returns g c =
    let k = g.K.CostKind in
    let o = offer_is k.kind k.lawful k.row c.args.costs.now c.args.leg.from c.cost_before.result c.leg_weight.result c.plus.result (weighed (figures_of k.row c.args.leg) (k.row c.args.rate.cost) c.args.rate.hours) c.requires.place c.cost_before.ensures c.requires.small c.leg_weight.ensures.value c.leg_weight.ensures.small c.plus.ensures in
    record { value = o.0; small = o.1 }
