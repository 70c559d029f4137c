use Rattle.std.proofs.Common.{◌≡◌, set, Some, Err, sym, ap, ◌∙◌}
use Rattle.limits.specs.Refusals.{if_refused, answer}
use Rattle.limits.proofs.Answers.{refused_by_err}
use Rattle.charts.specs.Written.{places_read, enter_refusal}
use Rattle.charts.proofs.table.enter_at.Goals as goal

pub returns-in_err-check_enter-clause-table : goal.returns-in_err-check_enter-clause-table
returns-in_err-check_enter-clause-table g c =
    let k = g.K.CostKind in
    let r = enter_refusal k.kind k.row c.args.ports (places_read c.args.table.now) c.args.n c.args.leg in
    let refused : answer r tt ≡ Err c.in_err-check_enter.field-0.0 =
    ap (λ places. answer (enter_refusal k.kind k.row c.args.ports places c.args.n c.args.leg) tt) (sym c.read_part.ensures) ∙ sym c.check_enter.ensures ∙ c.in_err-check_enter.was in
    ap (λ r. if_refused r c.args.table.now (set c.args.table.now c.args.n (Some c.args.leg))) (sym (refused_by_err r tt _ refused))
