use Rattle.std.proofs.Common.{◌≤◌, length, ap, arith, rules}
use Rattle.charts.specs.Meaning.{Figures}
use Rattle.columns.specs.Put.{put}
use Rattle.sheets.specs.Form.{leg_line}
use Rattle.sheets.proofs.Writing.{puts_more}
use Rattle.sheets.proofs.lines.put_leg.Goals as goal

pub returns : goal.returns
unfolding leg_line
returns g c =
    let out = c.args.out.now in
    let room : c.args.at ≤ length out = omega arith in
    let numbers = puts_more room (puts_more room (puts_more room (puts_more room c.put_byte.ensures c.put_count.ensures) c.put_count-2.ensures) c.put_count-3.ensures) c.put_number.ensures in
    let line = puts_more room (puts_more room numbers c.put_places.ensures) c.put_byte-2.ensures in
    let same = ap (λ (f : Figures). put out c.args.at (leg_line g.K.CostKind.kind.places (record { number = c.args.line.number; leg = f }))) c.plain_leg-leg.ensures.same in
    search (rules, line.wrote, same)
