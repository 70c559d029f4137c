use Rattle.std.proofs.Common.{◌≡◌, ℕ, ◌-◌, List, length}
use Rattle.sheets.specs.Form.{Numbered}
use Rattle.sheet_reader.specs.Tables.{table_figures, placed, LegsNext}
use Rattle.sheet_reader.proofs.Placed.{LegsLeft}
use Rattle.sheet_reader.proofs.filling.place_legs.Given as goal

-- whatever the legs of the lines are, those of the lines so far are put
abbrev pub invariant-loop-line : goal.invariant-loop-line
invariant-loop-line g l =
    (length l.table ≡ length l.initial.table) ×
    ((ls : List Numbered) (more : List ℕ) → LegsNext g.K.CostKind.kind (length l.initial.table) l.legs l.initial.rest ls more
    → LegsLeft g.K.CostKind.kind (length l.initial.table) (l.legs - l._line) l.rest more (table_figures g.K.CostKind.row l.table) (placed ls (table_figures g.K.CostKind.row l.initial.table)))
