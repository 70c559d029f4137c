use Rattle.std.proofs.Common.{◌∙◌, arith, rules}
use Rattle.search.proofs.Places.{row_filled}
use Rattle.search.proofs.search.zero_costs.Goals as goal

pub returns : goal.returns
returns g c = λ i h.
    row_filled g.K.CostKind.row _ _ _ c.zero-zero.result (λ y q e. search rules) c.fill_with.new.self c.fill_with.ensures.ran.1 i (omega (arith, c.fill_with.ensures.len))
    ∙ c.zero-zero.ensures
