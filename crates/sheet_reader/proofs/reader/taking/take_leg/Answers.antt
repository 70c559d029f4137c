use Rattle.limits.specs.declared.refusal.Refusal.TheVariants.{Malformed}
use Rattle.sheets.specs.Begun.{tallied}
use Rattle.sheet_texts.specs.Lines.{line_leg}
use Rattle.sheet_reader.specs.Reading.{limits_of}
use Rattle.sheet_reader.proofs.Answering.{none_refused, refused_with, passed_on, missing_passed_on}
use Rattle.sheet_reader.proofs.LegLines.{leg_malformed, leg_refused, leg_fits, leg_line_taken}
use Rattle.sheet_reader.proofs.reader.taking.take_leg.Goals as goal

pub returns-in_err-line : goal.returns-in_err-line
returns-in_err-line g c =
    missing_passed_on _ _ c.from_residual.result c.read_line.result _ Malformed c.from_residual.ensures.1 c.in_err-line.ensures.ok_part c.in_err-line.ensures.value
    (leg_malformed g.K.CostKind.kind (limits_of c.args.bounds) c.args.columns.now c.args.tally.now (rw c.in_err-line.ensures.ok_part at c.read_line.ensures))

pub returns-in_err-check_line : goal.returns-in_err-check_line
returns-in_err-check_line g c =
    let line = c.in_ok-line.line in
    passed_on _ _ c.from_residual-in_err-check_line.result _ c.from_residual-in_err-check_line.ensures.1
    (leg_refused g.K.CostKind.kind (limits_of c.args.bounds) c.args.columns.now c.args.tally.now (line_leg g.K.CostKind.row line) _ (rw c.in_ok-line.ensures.ok_part at c.read_line.ensures)
    (g.K.CostKind.narrow line.cost) (refused_with _ _ _ c.in_err-check_line.ensures))

pub count_leg-requires-clause-fits : goal.count_leg-requires-clause-fits
count_leg-requires-clause-fits g c =
    let line = c.in_ok-line.line in
    leg_fits g.K.CostKind.kind c.args.bounds.numbers (tallied c.args.tally.now) (line_leg g.K.CostKind.row line) c.args.bounds.few (g.met.K.SheetKind.bounded line.cost)
    (none_refused _ _ _ c.in_ok-check_line.ensures)

pub returns : goal.returns
returns g c =
    let k = g.K.CostKind.kind in
    let line = c.in_ok-line.line in
    let l = line_leg g.K.CostKind.row line in
    let none = none_refused _ _ _ c.in_ok-check_line.ensures in
    let fits = leg_fits k c.args.bounds.numbers (tallied c.args.tally.now) l c.args.bounds.few (g.met.K.SheetKind.bounded line.cost) none in
    rw c.leg_line_length.ensures
    (leg_line_taken k (limits_of c.args.bounds) c.args.columns.now c.args.tally.now _ l c.args.bounds.few (rw c.in_ok-line.ensures.ok_part at c.read_line.ensures) (g.K.CostKind.narrow line.cost) fits.1.1
    none c.count_leg.ensures)
