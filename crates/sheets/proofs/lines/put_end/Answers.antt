use Rattle.std.proofs.Common.{◌≤◌, length, arith, rules}
use Rattle.sheets.specs.Form.{end_line}
use Rattle.sheets.proofs.Writing.{puts_more}
use Rattle.sheets.proofs.lines.put_end.Goals as goal

pub returns : goal.returns
unfolding end_line
returns g c =
    let room : c.args.tally.now.end ≤ length c.args.out.now = omega arith in
    let line = puts_more room (puts_more room (puts_more room (puts_more room c.put_byte.ensures c.put_count.ensures) c.put_number.ensures) c.put_places.ensures) c.put_byte-2.ensures in
    record { wrote = search (rules, line.wrote); next = omega arith }
