use Rattle.std.proofs.Common.{◌≤◌, length, arith, rules}
use Rattle.sheets.specs.Form.{head_line}
use Rattle.sheets.proofs.Writing.{puts_more}
use Rattle.sheets.proofs.lines.put_head.Goals as goal

pub returns : goal.returns
unfolding head_line
returns g c =
    let room : 0 ≤ length c.args.out.now = omega arith in
    let line = puts_more room (puts_more room (puts_more room (rw c.letter.ensures at c.put_byte.ensures) c.put_count.ensures) (rw c.place_count.ensures at c.put_count-2.ensures)) c.put_byte-2.ensures in
    search (rules, line.wrote)
