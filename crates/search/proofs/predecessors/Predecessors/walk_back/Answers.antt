use Rattle.std.proofs.Common.{◌-◌, get_or, refl, ap, ◌∙◌, arith, length-set, rules}
use Rattle.std.proofs.lemmas.List.{get_or-replicate}
use Rattle.search.proofs.WalkingBack.{walk_starts, y_port, walk_goes_on, comes_again, never_again}
use Rattle.search.proofs.predecessors.Predecessors.walk_back.Goals as goal

pub loop-left-init : goal.loop-left-init
loop-left-init g c =
    let s = c.args.self.now in
    walk_starts s.led c.fill.new.self (s.layers - s.layers) (omega arith) c.requires.port (c.fill.ensures.len ∙ c.requires.seen)
    (λ u b. ap (λ l. get_or l u 0) (c.fill.ensures.after (λ y e. e)) ∙ get_or-replicate _ u 0 0 (omega (arith, c.requires.seen)))

pub offset_bounds-seen-at-in-loop-left : goal.offset_bounds-seen-at-in-loop-left
offset_bounds-seen-at-in-loop-left g c =
    let s = c.args.self.now in
    let h = y_port s.led (c.loop-left.left - 1) (omega (arith, c.loop-left-test.true, c.loop-left.auto.left)) c.loop-left.invariant _ c.in_ok-leg.ensures _ c.left_port-at.ensures in
    let p = s.led.within.few_ports in
    search rules

pub bounds-seen-at-in-loop-left : goal.bounds-seen-at-in-loop-left
bounds-seen-at-in-loop-left g c =
    let s = c.args.self.now in
    let h = y_port s.led (c.loop-left.left - 1) (omega (arith, c.loop-left-test.true, c.loop-left.auto.left)) c.loop-left.invariant _ c.in_ok-leg.ensures _ c.left_port-at.ensures in
    simp length-set (omega (arith, c.loop-left.invariant.long))

pub returns-then-met-gt0 : goal.returns-then-met-gt0
returns-then-met-gt0 g c =
    let s = c.args.self.now in
    comes_again s.led (c.loop-left.left - 1) (omega (arith, c.loop-left-test.true, c.loop-left.auto.left)) c.loop-left.invariant _ c.in_ok-leg.ensures _ c.left_port-at.ensures
    _ refl c.if-met-gt0.true _ c.repeat_between.ensures.legs c.repeat_between.ensures.place

pub loop-left-preserved : goal.loop-left-preserved
loop-left-preserved g c =
    let s = c.args.self.now in
    walk_goes_on s.led (c.loop-left.left - 1) (omega (arith, c.loop-left-test.true, c.loop-left.auto.left)) c.loop-left.invariant _ c.in_ok-leg.ensures _ c.left_port-at.ensures
    _ (omega (arith, c.loop-left-test.true, c.loop-left.auto.left)) (omega (arith, c.if-met-gt0.false))

pub returns : goal.returns
returns g c =
    let s = c.args.self.now in
    λ w. never_again s.led (omega (arith, c.loop-left-test.false)) c.loop-left.invariant
