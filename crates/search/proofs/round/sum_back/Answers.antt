use Rattle.std.proofs.Common.{◌-◌, arith}
use Rattle.charts.specs.Reading.{figures_of}
use Rattle.search.proofs.Summing.{p_within, some_leg, row_of_leg, hours_fit, sums, sum_starts}
use Rattle.search.proofs.round.sum_back.Goals as goal

pub loop-layer-init : goal.loop-layer-init
loop-layer-init g c = record {
  summing = sum_starts g.C.Cost.CostKind.lawful c.requires g.C.Cost.CostKind.row _ _ (omega arith) c.zero-cost.ensures;
  left = omega (arith);
}

pub number_at-requires : goal.number_at-requires
number_at-requires g c = p_within g.C.Cost.CostKind.lawful c.requires (c.args.repeat.layer - c.loop-layer.layer) c.loop-layer.at (c.loop-layer.layer - 1) (omega (arith, c.loop-layer-test.true, c.loop-layer.auto.layer)) (omega (arith, c.loop-layer-test.true, c.loop-layer.auto.layer, c.requires.deep)) c.loop-layer.invariant.summing.at_is

pub overflow_sub-number_at : goal.overflow_sub-number_at
overflow_sub-number_at g c = some_leg g.C.Cost.CostKind.lawful c.requires (c.args.repeat.layer - c.loop-layer.layer) c.loop-layer.at (c.loop-layer.layer - 1) (omega (arith, c.loop-layer-test.true, c.loop-layer.auto.layer)) (omega (arith, c.loop-layer-test.true, c.loop-layer.auto.layer, c.requires.deep)) c.loop-layer.invariant.summing.at_is _ c.number_at.ensures

pub overflow_add-hours : goal.overflow_add-hours
overflow_add-hours g c =
    let h = hours_fit g.C.Cost.CostKind.lawful c.requires (c.args.repeat.layer - c.loop-layer.layer) c.loop-layer.at (c.loop-layer.layer - 1) (omega (arith, c.loop-layer-test.true, c.loop-layer.auto.layer)) (omega (arith, c.loop-layer-test.true, c.loop-layer.auto.layer, c.requires.deep)) c.loop-layer.invariant.summing.at_is _ (row_of_leg g.C.Cost.CostKind.lawful c.requires (c.args.repeat.layer - c.loop-layer.layer) c.loop-layer.at (c.loop-layer.layer - 1) (omega (arith, c.loop-layer-test.true, c.loop-layer.auto.layer)) (omega (arith, c.loop-layer-test.true, c.loop-layer.auto.layer, c.requires.deep)) c.loop-layer.invariant.summing.at_is _ c.number_at.ensures) (figures_of g.C.Cost.CostKind.row c.leg_at-leg.result) c.leg_at-leg.ensures g.C.Cost.CostKind.row _ _ c.loop-layer.invariant.summing in
    record { fits = omega arith }

pub loop-layer-preserved : goal.loop-layer-preserved
loop-layer-preserved g c = record {
  summing = sums g.C.Cost.CostKind.lawful c.requires (c.args.repeat.layer - c.loop-layer.layer) c.loop-layer.at (c.loop-layer.layer - 1) (omega (arith, c.loop-layer-test.true, c.loop-layer.auto.layer)) (omega (arith, c.loop-layer-test.true, c.loop-layer.auto.layer, c.requires.deep)) c.loop-layer.invariant.summing.at_is _ (row_of_leg g.C.Cost.CostKind.lawful c.requires (c.args.repeat.layer - c.loop-layer.layer) c.loop-layer.at (c.loop-layer.layer - 1) (omega (arith, c.loop-layer-test.true, c.loop-layer.auto.layer)) (omega (arith, c.loop-layer-test.true, c.loop-layer.auto.layer, c.requires.deep)) c.loop-layer.invariant.summing.at_is _ c.number_at.ensures) (figures_of g.C.Cost.CostKind.row c.leg_at-leg.result) c.leg_at-leg.ensures g.C.Cost.CostKind.row _ _ c.loop-layer.hours
      _ (omega (arith, c.loop-layer-test.true, c.loop-layer.auto.layer)) c.loop-layer.invariant.summing c.plus-cost.ensures;
  left = omega (arith, c.loop-layer-test.true);
}
