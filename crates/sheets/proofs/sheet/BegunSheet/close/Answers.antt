use Rattle.std.proofs.Common.{sym, ap, ◌∙◌}
use Rattle.std.specs.Result.{is_err}
use Rattle.sheets.proofs.Calls.{ends}
use Rattle.sheets.proofs.sheet.BegunSheet.close.Goals as goal

pub returns : goal.returns
returns g c =
    let ok = sym (c.is_err.ensures.value ∙ ap is_err c.check_close.ensures) ∙ c.if-is_err.false in
    ends g.K.CostKind.kind c.args.self (record { length = c.put_end-length.result }) c.args.out.now c.put_end-length.new.out ok
    c.put_end-length.ensures.next c.put_end-length.ensures.wrote
