use Rattle.std.proofs.Common.{◌≡◌, refl, sym, ◌∙◌, arith, get_or, ◌<◌, ◌+◌}
use Rattle.std.proofs.lemmas.List.{take_all}
use Rattle.std.proofs.lemmas.Str.{digit_value_digit}
use Rattle.columns.specs.Numerals.{digit_bytes}
use Rattle.columns.proofs.Reading.{read_more, read_small, read_digit, read_all}
use Rattle.columns.proofs.read_size.Goals as goal

pub loop-digit-init : goal.loop-digit-init
unfolding digit_bytes
loop-digit-init c = refl

pub overflow_mul-n : goal.overflow_mul-n
overflow_mul-n c = omega (arith, read_small c.args.digits.now c.loop-digit.digit-index c.loop-digit.n c.loop-digit-test.true c.requires.narrow c.loop-digit.invariant)

pub returns-in_err-to_digit : goal.returns-in_err-to_digit
returns-in_err-to_digit c =
    rw c.from_residual.ensures (λ n some is.
    let digit = read_digit c.args.digits.now c.loop-digit.digit-index n c.loop-digit-test.true is in
    let value = digit_value_digit (get_or c.args.digits.now c.loop-digit.digit-index 0) digit in
    grind (arith, value, digit, c.in_err-to_digit.ensures, c.from.ensures))

pub overflow_add-n : goal.overflow_add-n
overflow_add-n c =
    let small = read_small c.args.digits.now c.loop-digit.digit-index c.loop-digit.n c.loop-digit-test.true c.requires.narrow c.loop-digit.invariant in
    grind (arith, small, c.in_ok-to_digit.ensures, c.from-in-loop-digit.ensures)

pub loop-digit-preserved : goal.loop-digit-preserved
loop-digit-preserved c =
    let digit : c.from-in-loop-digit.result < 10 = grind (arith, c.in_ok-to_digit.ensures, c.from-in-loop-digit.ensures) in
    let is : get_or c.args.digits.now c.loop-digit.digit-index 0 ≡ 48 + c.from-in-loop-digit.result = grind (arith, digit, c.from.ensures, c.in_ok-to_digit.ensures, c.from-in-loop-digit.ensures) in
    read_more c.args.digits.now c.loop-digit.digit-index c.loop-digit.n _ c.loop-digit-test.true c.requires.leads is digit c.loop-digit.invariant

pub returns : goal.returns
returns c =
    let all : c.args.digits.now ≡ digit_bytes c.loop-digit.n = sym (take_all c.loop-digit.digit-index c.args.digits.now c.loop-digit-test.false) ∙ c.loop-digit.invariant in
    rw c.then_some.ensures (read_all c.args.digits.now c.loop-digit.n c.requires.narrow all)
