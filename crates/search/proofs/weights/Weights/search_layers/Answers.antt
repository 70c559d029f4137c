use Rattle.std.proofs.Common.{◌≡◌, ◌+◌, refl, ◌∙◌, length, arith}
use Rattle.rows.proofs.Order.{clash}
use Rattle.search.proofs.Searching.{ground, tabled, way_back, cheaper_found}
use Rattle.search.proofs.weights.Weights.search_layers.Goals as goal
use Rattle.search.proofs.weights.Weights.search_layers.Goals.{then-is_looked_at+in_default, else-is_looked_at}

pub loop-layer-init : goal.loop-layer-init
loop-layer-init g c =
    let k = g.C.Cost.CostKind in
    record {
      climbed = ground k.lawful c.args.self.now.ready c.zero_costs.new.costs _
          (c.zero_costs.auto.costs ∙ c.requires.one_layer) c.copy_from_slice.ensures.after c.requires.rows (λ i h. c.zero_costs.ensures i (omega (arith, c.zero_costs.auto.costs)));
      more = omega (arith, c.args.self.now.ready.within.some_port);
      round = refl;
    }

pub invariant_of-preds : goal.invariant_of-preds
invariant_of-preds g c =
    let k = g.C.Cost.CostKind in
    record { led = tabled k.lawful c.args.self.now.ready (c.climb.ensures.next c.if-not-climb.false) c.requires.one_layer }

pub returns-in-Some : goal.returns-in-Some
returns-in-Some g c =
    let k = g.C.Cost.CostKind in
    cheaper_found k.lawful c.args.self.now.ready (c.climb.ensures.next c.if-not-climb.false) c.requires.one_layer c.in-Some.ensures

pub loop-layer-preserved : goal.loop-layer-preserved
loop-layer-preserved g c = record {
  climbed = c.climb.ensures.next c.if-not-climb.false;
  more = elim c.if-is_looked_at.branch [
    | then-is_looked_at+in_default w ↦
        let k = g.C.Cost.CostKind in
        let low = c.climb.ensures.lowered c.if-not-climb.false in
        let way = way_back k.lawful c.args.self.now.ready (c.climb.ensures.next c.if-not-climb.false) c.requires.one_layer low.1 in
        w.in_default.ensures.1 low.0 low.1.0 way
    | else-is_looked_at w ↦
        let not : c.loop-layer.layer + 1 ≡ length c.args.costs.now → ⊥ = λ e. clash (c.is_looked_at.ensures e) w.if-is_looked_at.false in
        omega (arith, c.loop-layer.invariant.more, c.requires.one_layer)
  ];
  round = elim c.if-is_looked_at.branch [
    | then-is_looked_at+in_default w ↦ w.round-is ∙ w.in_default.ensures.0 ∙ c.loop-layer.invariant.round
    | else-is_looked_at w ↦ w.round-is ∙ c.loop-layer.invariant.round
  ];
}
