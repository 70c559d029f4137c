-- The numbers of a line as they are read, before any limit is tested. Assumes nothing.
use Rattle.std.specs.Prelude.{◌≡◌, ℕ, ◌+◌, ◌*◌, List, ℤ, ◌≢◌}
use Rattle.rows.specs.Rows.{Row, place, Narrow}
use Rattle.sheets.specs.declared.places.Places.{Places}
use Rattle.sheets.specs.Places.{row_of}
use Rattle.sheets.specs.Form.{Numbered}
use Rattle.sheet_texts.specs.declared.line.LegLine.{LegLine}
use Rattle.sheet_texts.specs.Columns.{ShowsPlaces}

-- the leg of a line, and its number
abbrev pub line_leg : {C : Type 0} → (C → Row) → LegLine C → Numbered
line_leg row l = record { number = l.number; leg = record { from = l.from; to = l.to; hours = l.hours; cost = row l.cost } }

-- a row with another number in place i
pub record Replaced (r : Row) (i : ℕ) (z : ℤ) (r' : Row) : Type 0 where
  pub there : place r' i ≡ z
  pub elsewhere : (j : ℕ) → (j ≢ i) → place r' j ≡ place r j

-- n places are read from a place on, and no more: `next` is the place after them
pub record ReadPlaces (text : List ℕ) (at w n : ℕ) (p : Places) (next : ℕ) : Type 0 where
  pub shown : ShowsPlaces text at w n (row_of p)
  pub narrow : Narrow n (row_of p)
  pub next_is : next ≡ at + w * n
