use Rattle.std.proofs.Common.{◌≡◌, ℕ, List, length, ◌==◌, sym, ap, ◌∙◌, arith}
use Rattle.std.proofs.lemmas.Bool.{false≢true}
use Rattle.sheet_reader.specs.Reading.{limits_of}
use Rattle.sheet_reader.proofs.Checked.{at_fault, text_read}
use Rattle.sheet_reader.proofs.checking.check_text.Goals as goal

pub returns-then-is_empty : goal.returns-then-is_empty
returns-then-is_empty g c =
    let none : length c.loop-rest.rest.now ≡ 0 = grind arith in
    rw (c.ok_or.ensures.value, c.at.ensures)
    (text_read g.K.CostKind.kind (limits_of c.args.bounds) c.args.text.now g.K.CostKind.lawful.few_places c.loop-rest.reader c.loop-rest.rest.now c.loop-rest.line c.ended.result none
    c.loop-rest.invariant.1 c.ended.ensures)

pub returns-in-Err : goal.returns-in-Err
returns-in-Err g c =
    rw c.at-in-Err.ensures
    (at_fault g.K.CostKind.kind (limits_of c.args.bounds) c.args.text.now g.K.CostKind.lawful.few_places c.in-Err.refusal c.loop-rest.line
    (c.in-Err.ensures c.args.text.now c.loop-rest.line
    (λ _ none. false≢true (sym c.if-is_empty.false ∙ c.is_empty.ensures ∙ ap (λ (xs : List ℕ). length xs == 0) none)) c.loop-rest.invariant.1))
