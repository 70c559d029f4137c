use Rattle.std.proofs.Common.{get_or, None, sym, ap, ◌∙◌}
use Rattle.limits.specs.Refusals.{answer}
use Rattle.limits.proofs.Answers.{taken_by_ok}
use Rattle.charts.specs.Limits.{price_refusal}
use Rattle.charts.specs.Written.{leg_in_use}
use Rattle.charts.proofs.Edits.{repriced_table}
use Rattle.charts.proofs.table.reprice_at.Goals as goal

pub returns-clause-table : goal.returns-clause-table
returns-clause-table g c =
    let k = g.K.CostKind in
    let used = ap (λ places. leg_in_use (get_or places c.args.n None)) (sym c.read_part.ensures) ∙ sym c.used_leg.ensures ∙ c.in_ok-leg.was in
    let priced = ap (λ h. price_refusal k.kind h (k.row c.args.cost)) (sym c.from.ensures) ∙ taken_by_ok _ tt _ (sym c.check_price.ensures ∙ c.in_ok-check_price.was) in
    c.put.ensures ∙ repriced_table k.kind k.row c.args.table.now c.args.n c.args.hours c.args.cost c.in_ok-leg.leg used priced
