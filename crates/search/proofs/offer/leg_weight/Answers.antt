use Rattle.search.proofs.Weighing.{weight_is}
use Rattle.search.proofs.offer.leg_weight.Goals as goal

pub returns : goal.returns
returns g c =
    let k = g.K.CostKind in
    let w = weight_is k.kind k.lawful _ _ _ _ _ _ _ _ c.requires.leg.small_cost c.requires.leg.few_hours c.requires.rate c.multiple.ensures c.multiple-2.ensures c.negated.ensures c.plus.ensures in
    record { value = w.0; small = w.1 }
