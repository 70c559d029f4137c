use Rattle.std.proofs.Common.{◌+◌, ◌≤◌, length}
use Rattle.sheet_reader.specs.Reading.{limits_of, Stands}
use Rattle.sheet_reader.proofs.checking.check_text.Given as goal

abbrev pub invariant-loop-rest : goal.invariant-loop-rest
invariant-loop-rest g l =
    (l.line + length l.rest ≤ length l.initial.rest + 1) ×
    Stands g.K.CostKind.kind (limits_of l.bounds) l.initial.rest l.reader l.rest l.line

abbrev pub decreases-loop-rest : goal.decreases-loop-rest
decreases-loop-rest g l = length l.rest
