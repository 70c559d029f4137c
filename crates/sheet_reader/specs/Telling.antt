-- What is printed of a fault. Assumes nothing.
use Rattle.std.specs.Prelude.{ℕ, List, [], ◌++◌, Option, Some, None, codes}
use Rattle.std.specs.Fmt.{decimal}
use Rattle.limits.specs.Refusals.{refusal_text}
use Rattle.sheet_reader.specs.declared.fault.Fault.{Fault}

-- the line, where one is at fault
abbrev pub line_told : Option ℕ → List ℕ
line_told (Some line) = codes " in line " ++ decimal line
line_told None = []

-- the refusal and the line
abbrev pub told : Fault → List ℕ
told f = refusal_text f.refusal ++ line_told f.line
