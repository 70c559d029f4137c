use Rattle.std.proofs.Common.{◌<◌, length, arith, rules}
use Rattle.charts.specs.Reading.{figures_of}
use Rattle.charts.proofs.Layers.{allowed_anywhere}
use Rattle.search.proofs.Relaxing.{leg_allowed, relax_stays, relax_takes}
use Rattle.search.proofs.weights.Weights.relax_entry.Goals as goal

pub leg_offer-offer-requires : goal.leg_offer-offer-requires
leg_offer-offer-requires g c =
    let a = leg_allowed g.C.Cost.CostKind.lawful c.args.self.now.ready c.args.n c.in-Leg.ensures in
    record {
      leg = allowed_anywhere g.C.Cost.CostKind.kind (g.C.Chart.meaning c.args.self.now.chart.now) c.args.n _ c.args.self.now.ready.within c.in-Leg.ensures;
      rate = c.args.self.now.ready.small_rate;
      place = omega (arith, a.from_port, c.requires.relaxing.one_layer);
      small = c.requires.relaxing.small _ a.from_port;
    }

pub offset_bounds-next-to : goal.offset_bounds-next-to
offset_bounds-next-to g c =
    let a = leg_allowed g.C.Cost.CostKind.lawful c.args.self.now.ready c.args.n c.in-Leg.ensures in
    let h : c.in-Leg.leg.to < length c.args.next.now = omega (arith, a.to_port, c.requires.relaxing.next_layer) in
    search rules

pub bounds-next-to : goal.bounds-next-to
bounds-next-to g c = let a = leg_allowed g.C.Cost.CostKind.lawful c.args.self.now.ready c.args.n c.in-Leg.ensures in omega (arith, a.to_port, c.requires.relaxing.next_layer)

pub offset_bounds-next-to-then-is_lower : goal.offset_bounds-next-to-then-is_lower
offset_bounds-next-to-then-is_lower g c =
    let a = leg_allowed g.C.Cost.CostKind.lawful c.args.self.now.ready c.args.n c.in-Leg.ensures in
    let h : c.in-Leg.leg.to < length c.args.next.now = omega (arith, a.to_port, c.requires.relaxing.next_layer) in
    search rules

pub bounds-next-to-then-is_lower : goal.bounds-next-to-then-is_lower
bounds-next-to-then-is_lower g c = let a = leg_allowed g.C.Cost.CostKind.lawful c.args.self.now.ready c.args.n c.in-Leg.ensures in omega (arith, a.to_port, c.requires.relaxing.next_layer)

pub bounds-preds-to : goal.bounds-preds-to
bounds-preds-to g c = let a = leg_allowed g.C.Cost.CostKind.lawful c.args.self.now.ready c.args.n c.in-Leg.ensures in omega (arith, a.to_port, c.requires.relaxing.one_row)

pub returns-then-is_lower : goal.returns-then-is_lower
returns-then-is_lower g c =
    relax_takes g.C.Cost.CostKind.lawful c.args.self.now.ready c.requires.relaxing
    (figures_of g.C.Cost.CostKind.row c.in-Leg.leg) c.in-Leg.ensures _ _ c.index-next-to.is
    c.leg_offer-offer.ensures.value c.leg_offer-offer.ensures.small _ c.is_lower.ensures _ c.predecessor.ensures c.if-is_lower.true

pub returns-else-is_lower : goal.returns-else-is_lower
returns-else-is_lower g c =
    relax_stays g.C.Cost.CostKind.lawful c.args.self.now.ready c.requires.relaxing
    (figures_of g.C.Cost.CostKind.row c.in-Leg.leg) c.in-Leg.ensures _ _ c.index-next-to.is
    c.leg_offer-offer.ensures.value c.leg_offer-offer.ensures.small _ c.is_lower.ensures c.if-is_lower.false
