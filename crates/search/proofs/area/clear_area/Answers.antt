use Rattle.std.proofs.Common.{◌≡◌, ◌*◌, length, ◌∙◌, arith}
use Rattle.search.proofs.Parts.{front_length, front_rest, row_front}
use Rattle.search.proofs.area.clear_area.Goals as goal

pub returns-clause-costs : goal.returns-clause-costs
returns-clause-costs g c =
    let row = g.K.CostKind.row in
    let n = 3 * c.args.ports in
    let front = c.zero_costs.new.costs in
    let long : length front ≡ n = front_length n c.args.costs.now front c.requires.places.0 c.zero_costs.auto.costs in
    record {
      zeros = λ i h. row_front row front _ i (omega arith) ∙ c.zero_costs.ensures i (omega (arith, c.zero_costs.auto.costs));
      rest = front_rest n c.args.costs.now front c.requires.places.0 c.zero_costs.auto.costs n (omega arith);
    }
