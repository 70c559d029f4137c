-- What holds of every text. Assumes nothing.
use Rattle.std.specs.Prelude.{◌≡◌, ℕ, ◌≤◌, List}
use Rattle.limits.specs.Numbers.{most_places}
use Rattle.limits.specs.declared.refusal.Refusal.{Refusal}
use Rattle.rows.specs.Kinds.{Kind}
use Rattle.sheets.specs.Form.{Sheet, sheet_bytes}
use Rattle.sheet_texts.specs.Faults.{Limits, Readable, FaultAt}

-- a text is one sheet at most
abbrev pub OneSheet : Type 0
OneSheet = (k : Kind) (m : Limits) (s t : Sheet) → k.places ≤ most_places → Readable k m s → Readable k m t → sheet_bytes k.places s ≡ sheet_bytes k.places t → s ≡ t

-- a sheet that can be read has no fault
abbrev pub SoundSheet : Type 0
SoundSheet = (k : Kind) (m : Limits) (s : Sheet) (e : Refusal) (line : ℕ) → k.places ≤ most_places → Readable k m s → FaultAt k m (sheet_bytes k.places s) e line → ⊥

-- a text is at fault in one line, and for one reason
abbrev pub OneFault : Type 0
OneFault = (k : Kind) (m : Limits) (text : List ℕ) (d e : Refusal) (i j : ℕ) → k.places ≤ most_places → FaultAt k m text d i → FaultAt k m text e j → (d ≡ e) × (i ≡ j)
