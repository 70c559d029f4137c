use Rattle.std.proofs.Common.{◌≡◌, length}
use Rattle.limits.specs.Numbers.{most_places}
use Rattle.sheet_texts.specs.Lines.{ReadPlaces}
use Rattle.sheet_texts.proofs.line.read_places.Given as goal

abbrev pub invariant-loop-i : goal.invariant-loop-i
invariant-loop-i l = ReadPlaces l.columns l.at l.width l.i l.places l.next × (length l.places.numbers ≡ most_places)
