-- A table of legs by its figures, and what reading a sheet into it answers and leaves. Assumes nothing.
use Rattle.std.specs.Prelude.{◌≡◌, ℕ, ◌+◌, ◌<◌, ◌≤◌, List, [], ◌∷◌, ◌++◌, map, length, replicate, Some, None, Ok, Option, Result, MatchResult, slice_set}
use Rattle.std.specs.List.{AllByRecursion}
use Rattle.limits.specs.Numbers.{most_ports, most_legs}
use Rattle.limits.specs.declared.refusal.Refusal.TheVariants.{Length}
use Rattle.rows.specs.Rows.{Row, Narrow}
use Rattle.rows.specs.Kinds.{Kind}
use Rattle.charts.specs.Meaning.{Figures, Allowed}
use Rattle.charts.specs.Reading.{figures_of}
use Rattle.charts.specs.declared.leg.Leg.{Leg}
use Rattle.sheets.specs.declared.form.Form.TheVariants.{Chart}
use Rattle.sheets.specs.Form.{Numbered, Sheet, leg_line, leg_lines, sheet_bytes}
use Rattle.sheet_texts.specs.Faults.{Limits, Readable, LegFits}
use Rattle.sheet_reader.specs.declared.fault.Fault.{Fault}
use Rattle.sheet_reader.specs.Reading.{FaultIn}

abbrev pub place_figures : {K : Type 0} → (K → Row) → Option (Leg K) → Option Figures
place_figures row None = None
place_figures row (Some l) = Some (figures_of row l)

abbrev pub table_figures : {K : Type 0} → (K → Row) → List (Option (Leg K)) → List (Option Figures)
table_figures row table = map (place_figures row) table

-- a table with these legs put under their numbers
abbrev pub placed : List Numbered → List (Option Figures) → List (Option Figures)
placed [] t = t
placed (l ∷ ls) t = placed ls (slice_set t l.number (Some l.leg))

-- a table of so many places that holds these legs and no others
abbrev pub table_of : ℕ → List Numbered → List (Option Figures)
table_of size ls = placed ls (replicate size None)

-- the legs of a table in the order of their numbers, of which the first is n
abbrev pub legs_from : ℕ → List (Option Figures) → List Numbered
legs_from n [] = []
legs_from n (None ∷ t) = legs_from (n + 1) t
legs_from n (Some f ∷ t) = record { number = n; leg = f } ∷ legs_from (n + 1) t

-- the chart sheet of a table
abbrev pub chart_sheet : ℕ → List (Option Figures) → Sheet
chart_sheet ports table = record { form = Chart; ports = ports; legs = legs_from 0 table }

-- a leg that can be written into a line and put into a table of so many places
pub record Placeable (k : Kind) (size : ℕ) (l : Numbered) : Type 0 where
  pub fits : LegFits k.places l
  pub narrow : Narrow k.places l.leg.cost
  pub allowed : Allowed k most_ports l.leg
  pub below : l.number < size

-- a text begins with the line of a leg that can be put into a table of so many places
abbrev pub LegNext : Kind → ℕ → List ℕ → Numbered → List ℕ → Type 0
LegNext k size rest l more = Placeable k size l × (rest ≡ leg_line k.places l ++ more)

-- a text begins with the lines of legs, so many of them, that can all be put into a table of so many places
pub record LegsNext (k : Kind) (size legs : ℕ) (text : List ℕ) (ls : List Numbered) (more : List ℕ) : Type 0 where
  pub placeable : AllByRecursion (Placeable k size) ls
  pub count : length ls ≡ legs
  pub lines : text ≡ leg_lines k.places ls ++ more

-- why a text is not read into a table of so many places: the table is too long, or else the first line at fault
pub record Refused (k : Kind) (m : Limits) (text : List ℕ) (f : Fault) : Type 0 where
  pub too_long : most_legs < m.numbers → f ≡ record { refusal = Length; line = None }
  pub at_line : m.numbers ≤ most_legs → FaultIn k m text f.refusal f.line

-- a text of a chart of at most so many ports is read into a table
pub record Reads {K : Type 0} (k : Kind) (row : K → Row) (most_ports_read : ℕ) (text : List ℕ) (table : List (Option (Leg K))) (r : Result ℕ Fault) (table' : List (Option (Leg K))) : Type 0 where
  -- accepted, the text is the sheet of the legs that the table then holds; refused, the table is as it was
  pub answered :
      let m : Limits = record { ports = most_ports_read; numbers = length table } in
      MatchResult r
      (λ p.
      let s = chart_sheet p (table_figures row table') in
      (m.numbers ≤ most_legs) × Readable k m s × (text ≡ sheet_bytes k.places s) × (length table' ≡ length table))
      (λ f. Refused k m text f × (table' ≡ table))
  -- a sheet within the limits is accepted, and the table then holds its legs and no others
  pub read_back : (s : Sheet) → length table ≤ most_legs → Readable k (record { ports = most_ports_read; numbers = length table }) s → text ≡ sheet_bytes k.places s
      → (r ≡ Ok s.ports) × (table_figures row table' ≡ table_of (length table) s.legs)
