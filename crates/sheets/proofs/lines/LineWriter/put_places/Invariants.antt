use Rattle.std.proofs.Common.{◌*◌}
use Rattle.sheets.specs.Places.{row_of}
use Rattle.sheets.specs.Form.{place_columns}
use Rattle.sheets.specs.Lines.{Puts}
use Rattle.sheets.proofs.lines.LineWriter.put_places.Given as goal

abbrev pub invariant-loop-number : goal.invariant-loop-number
invariant-loop-number g l = Puts l.initial.self l.self (place_columns l.width l.number-index (row_of l.fn.places)) (l.width * l.number-index)
