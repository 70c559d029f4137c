use Rattle.std.proofs.Common.{◌≡◌, ◌<◌, ◌^◌, ◌-ℤ◌, pos, neg_ℤ, w64, to_z, of_z, sym, ◌∙◌, arith}
use Rattle.std.proofs.lemmas.Int.{to_z_pos}
use Rattle.std.proofs.lemmas.List.{take_rest}
use Rattle.columns.proofs.Reading.{minus_none, minus_some, plain_none, plain_some, one_zero, zero_none, minus_zero_none}
use Rattle.columns.proofs.read_numeral.Goals as goal

pub returns-in-48 : goal.returns-in-48
returns-in-48 c = one_zero c.args.bytes.now (grind arith) (grind arith)

pub returns-in_err-read_size-in-45 : goal.returns-in_err-read_size-in-45
returns-in_err-read_size-in-45 c =
    rw c.from_residual.ensures (minus_none c.args.bytes.now (grind arith) (λ n above is. c.in_err-read_size-in-45.ensures n above (take_rest c.args.bytes.now 1 ∙ is)))

pub returns-in_ok-read_size-in-45 : goal.returns-in_ok-read_size-in-45
returns-in_ok-read_size-in-45 c =
    let size = c.in_ok-read_size-in-45.ensures in
    let small : c.in_ok-read_size-in-45.field-0 < 2 ^ 63 = omega (arith, size.1) in
    let e : to_z w64 (of_z w64 (pos 0 -ℤ to_z w64 c.in_ok-read_size-in-45.field-0)) ≡ neg_ℤ (pos c.in_ok-read_size-in-45.field-0) = grind (arith, small) in
    rw e (minus_some c.args.bytes.now c.in_ok-read_size-in-45.field-0 (grind arith) (grind arith) size.0 (sym (take_rest c.args.bytes.now 1) ∙ size.2))

pub returns-in_err-read_size-in_default : goal.returns-in_err-read_size-in_default
returns-in_err-read_size-in_default c =
    rw c.from_residual-in_err-read_size-in_default.ensures (plain_none c.args.bytes.now (λ some is. grind arith) (λ one is. grind arith) c.in_err-read_size-in_default.ensures)

pub returns-in_ok-read_size-in_default : goal.returns-in_ok-read_size-in_default
returns-in_ok-read_size-in_default c =
    let size = c.in_ok-read_size-in_default.ensures in
    let small : c.in_ok-read_size-in_default.field-0 < 2 ^ 63 = omega (arith, size.1) in
    rw (to_z_pos w64 c.in_ok-read_size-in_default.field-0 small) (plain_some c.args.bytes.now c.in_ok-read_size-in_default.field-0 size.2)

pub returns-in-48-2 : goal.returns-in-48-2
returns-in-48-2 c = zero_none c.args.bytes.now (grind arith) (grind arith)

pub returns-in-48-2-2 : goal.returns-in-48-2-2
returns-in-48-2-2 c = minus_zero_none c.args.bytes.now (grind arith) (grind arith)
