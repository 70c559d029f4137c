use Rattle.std.proofs.Common.{◌+◌, ◌-◌, ◌*◌, length, sym, ap, ◌∙◌, subst, arith}
use Rattle.search.specs.Layer.{Relaxing}
use Rattle.search.proofs.Parts.{row_ends, length_put}
use Rattle.search.proofs.Searching.{ready_to_relax, least, climbs, some_lowered}
use Rattle.search.proofs.weights.Weights.climb.Goals as goal

pub relax_layer-improved-requires-clause-layers : goal.relax_layer-improved-requires-clause-layers
relax_layer-improved-requires-clause-layers g c = ready_to_relax g.C.Cost.CostKind.lawful c.args.self.now.ready c.requires.climbed c.requires.more

pub returns-then-improved-clause-next : goal.returns-then-improved-clause-next
returns-then-improved-clause-next g c =
    let k = g.C.Cost.CostKind in
    let m = g.C.Chart.meaning c.args.self.now.chart.now in
    let S = c.requires.climbed in
    let preds = c.relax_layer-improved.new.preds in
    let p = length c.args.costs.now in
    let e = row_ends c.args.layer p m.ports (length c.args.table.now) S.one_layer (omega (arith, c.requires.more, S.one_layer)) S.rows in
    let T = subst (Relaxing k.kind k.row m c.args.self.now.rate c.args.costs.now c.relax_layer-improved.new.next preds (length m.entries)) c.if-improved.true c.relax_layer-improved.ensures in
    let a = c.args.layer * p in
    let n = (c.args.layer + 1) * p - a in
    let long = length_put a n c.args.table.now preds (omega (arith, e.0, e.1)) (T.one_row ∙ sym S.one_layer ∙ sym e.1) in
    λ r. climbs k.lawful c.args.self.now.ready S c.requires.more T a n (ap (λ q. c.args.layer * q) S.one_layer) _ long c.copy_from_slice.ensures.after

pub returns-then-improved-clause-lowered : goal.returns-then-improved-clause-lowered
returns-then-improved-clause-lowered g c =
    let k = g.C.Cost.CostKind in
    let m = g.C.Chart.meaning c.args.self.now.chart.now in
    let S = c.requires.climbed in
    let T = subst (Relaxing k.kind k.row m c.args.self.now.rate c.args.costs.now c.relax_layer-improved.new.next c.relax_layer-improved.new.preds (length m.entries)) c.if-improved.true c.relax_layer-improved.ensures in
    λ r. some_lowered k.lawful c.args.self.now.ready S c.requires.more T _ _ (ap (λ q. c.args.layer * q) S.one_layer)

pub returns-else-improved-clause-least : goal.returns-else-improved-clause-least
returns-else-improved-clause-least g c =
    let k = g.C.Cost.CostKind in
    let m = g.C.Chart.meaning c.args.self.now.chart.now in
    λ r. least k.lawful c.args.self.now.ready c.requires.climbed
    (subst (Relaxing k.kind k.row m c.args.self.now.rate c.args.costs.now c.relax_layer-improved.new.next c.relax_layer-improved.new.preds (length m.entries)) c.if-improved.false c.relax_layer-improved.ensures)
