use Rattle.std.proofs.Common.{◌-◌, arith}
use Rattle.search.proofs.Summing.{p_within, some_leg, row_of_leg, copies, copy_starts}
use Rattle.search.proofs.round.copy_back.Goals as goal

pub loop-layer-init : goal.loop-layer-init
loop-layer-init g c = record {
  copying = copy_starts g.C.Cost.CostKind.lawful c.requires.repeat c.args.out.now _ (omega arith) c.requires.places;
  left = omega (arith);
}

pub number_at-n-requires : goal.number_at-n-requires
number_at-n-requires g c = p_within g.C.Cost.CostKind.lawful c.requires.repeat (c.args.repeat.layer - c.loop-layer.layer) c.loop-layer.at (c.loop-layer.layer - 1) (omega (arith, c.loop-layer-test.true, c.loop-layer.auto.layer)) (omega (arith, c.loop-layer-test.true, c.loop-layer.auto.layer, c.requires.repeat.deep)) c.loop-layer.invariant.copying.at_is

pub overflow_sub-n : goal.overflow_sub-n
overflow_sub-n g c = some_leg g.C.Cost.CostKind.lawful c.requires.repeat (c.args.repeat.layer - c.loop-layer.layer) c.loop-layer.at (c.loop-layer.layer - 1) (omega (arith, c.loop-layer-test.true, c.loop-layer.auto.layer)) (omega (arith, c.loop-layer-test.true, c.loop-layer.auto.layer, c.requires.repeat.deep)) c.loop-layer.invariant.copying.at_is _ c.number_at-n.ensures

pub loop-layer-preserved : goal.loop-layer-preserved
loop-layer-preserved g c = record {
  copying = copies g.C.Cost.CostKind.lawful c.requires.repeat (c.args.repeat.layer - c.loop-layer.layer) c.loop-layer.at (c.loop-layer.layer - 1) (omega (arith, c.loop-layer-test.true, c.loop-layer.auto.layer)) (omega (arith, c.loop-layer-test.true, c.loop-layer.auto.layer, c.requires.repeat.deep)) c.loop-layer.invariant.copying.at_is _ (row_of_leg g.C.Cost.CostKind.lawful c.requires.repeat (c.args.repeat.layer - c.loop-layer.layer) c.loop-layer.at (c.loop-layer.layer - 1) (omega (arith, c.loop-layer-test.true, c.loop-layer.auto.layer)) (omega (arith, c.loop-layer-test.true, c.loop-layer.auto.layer, c.requires.repeat.deep)) c.loop-layer.invariant.copying.at_is _ c.number_at-n.ensures) c.loop-layer.out _
      _ _ (omega (arith, c.loop-layer-test.true, c.loop-layer.auto.layer)) (omega (arith, c.loop-layer-test.true, c.loop-layer.auto.layer, c.requires.repeat.deep)) c.left_port-at.ensures c.loop-layer.invariant.copying;
  left = omega (arith, c.loop-layer-test.true);
}
