use Rattle.std.proofs.Common.{length}
use Rattle.sheets.specs.Begun.{begun}
use Rattle.sheets.specs.Writing.{numbered_of}
use Rattle.sheets.proofs.Calls.{line_fits, takes}
use Rattle.sheets.proofs.sheet.BegunSheet.leg.Goals as goal

pub write_leg-requires-clause-fits : goal.write_leg-requires-clause-fits
write_leg-requires-clause-fits g c =
    let line = c.args.line in
    line_fits g.K.CostKind.kind (begun c.args.self.now) (numbered_of g.K.CostKind.row line) (length c.args.out.now)
    c.in_ok-check_line.ensures (g.met.K.SheetKind.bounded line.leg.cost)

pub returns : goal.returns
returns g c =
    let line = c.args.line in
    takes g.K.CostKind.kind (begun c.args.self.now) _ (numbered_of g.K.CostKind.row line) c.args.out.now c.write_leg.new.out (g.K.CostKind.narrow line.leg.cost)
    (g.met.K.SheetKind.bounded line.leg.cost) c.in_ok-check_line.ensures c.write_leg.ensures.sheet c.write_leg.ensures.bytes
