use Rattle.sheets.proofs.Calls.{begins}
use Rattle.sheets.proofs.sheet.BegunSheet.begin.Goals as goal

pub returns : goal.returns
returns g c =
    begins g.K.CostKind.kind c.args.form c.args.ports c.args.out.now c.put_head.new.out _ g.K.CostKind.lawful.few_places
    c.in_ok-check_begin.ensures c.«open».ensures c.put_head.ensures
