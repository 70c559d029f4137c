use Rattle.std.proofs.Common.{◌≡◌, take}
use Rattle.columns.specs.Numerals.{digit_bytes}
use Rattle.columns.proofs.read_size.Given as goal

abbrev pub invariant-loop-digit : goal.invariant-loop-digit
invariant-loop-digit l = take l.digit-index l.digits ≡ digit_bytes l.n
