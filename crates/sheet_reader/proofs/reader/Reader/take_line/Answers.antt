use Rattle.std.proofs.Common.{◌≡◌, ℕ, List, subst, refl, arith}
use Rattle.sheets.specs.Form.{end_length}
use Rattle.sheet_reader.specs.declared.reader.Reader.TheVariants.{Legs, Ended}
use Rattle.sheet_reader.specs.Reading.{limits_of, Advances}
use Rattle.sheet_reader.proofs.OtherLines.{no_head_letter, no_line_letter, text_left_over, text_out, first_then}
use Rattle.sheet_reader.proofs.reader.Reader.take_line.Goals as goal

pub returns-in_default : goal.returns-in_default
returns-in_default g c = text_out g.K.CostKind.kind (limits_of c.args.bounds) c.args.text.now c.args.self.now (grind arith)

pub returns-in_ok-check_end-in-Legs-E : goal.returns-in_ok-check_end-in-Legs-E
returns-in_ok-check_end-in-Legs-E g c =
    let k = g.K.CostKind.kind in
    let m = limits_of c.args.bounds in
    let tally = c.in-Legs-E.tally in
    let ended : c.«end».new.self ≡ Ended tally = c.«end».ensures tally refl in
    let taken = c.in_ok-check_end-in-Legs-E.ensures m in
    rw (c.in-Legs-E.is-0, ended, c.end_line_length.ensures)
    (subst (λ (rest : List ℕ). Advances k m (Legs tally) (Ended tally) rest (end_length k.places)) (first_then c.args.text.now 69 (grind arith) c.in-Legs-E.is-1) taken)

pub returns-in_default-2 : goal.returns-in_default-2
returns-in_default-2 g c = rw c.in_default-2.is-0 (no_head_letter g.K.CostKind.kind (limits_of c.args.bounds) c.args.text.now c.in_default-2.is-1.1)

pub returns-in_default-2-2 : goal.returns-in_default-2-2
returns-in_default-2-2 g c =
    rw c.in_default-2.is-0
    (no_line_letter g.K.CostKind.kind (limits_of c.args.bounds) c.args.text.now c.in_default-2.field-0-0 c.in_default-2.is-1.0.1 c.in_default-2.is-1.1)

pub returns-in_default-2-3 : goal.returns-in_default-2-3
returns-in_default-2-3 g c = rw c.in_default-2.is-0 (text_left_over g.K.CostKind.kind (limits_of c.args.bounds) c.args.text.now c.in_default-2.field-0-0)
