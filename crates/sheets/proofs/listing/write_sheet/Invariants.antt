use Rattle.std.proofs.Common.{ℕ, List, [], take, drop}
use Rattle.sheets.specs.declared.form.Form.{Form}
use Rattle.sheets.specs.Begun.{begun}
use Rattle.sheets.specs.Listing.{listed}
use Rattle.sheets.proofs.Progress.{Progress}
use Rattle.sheets.proofs.listing.write_sheet.Given as goal

-- whatever form and buffer the sheet was begun with, so many legs are put
abbrev pub invariant-loop-leg : goal.invariant-loop-leg
invariant-loop-leg g l = (form : Form) (out : List ℕ) →
    let sheet = listed g.K.CostKind.row form l.ports in
    Progress g.K.CostKind.kind (sheet l.legs) (sheet []) (sheet l.legs).legs out (begun l.initial.sheet) l.initial.out
    → Progress g.K.CostKind.kind (sheet l.legs) (sheet (take l.leg-index l.legs)) (sheet (drop l.leg-index l.legs)).legs out (begun l.sheet) l.out
