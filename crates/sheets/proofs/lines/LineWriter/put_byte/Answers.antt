use Rattle.std.proofs.Common.{refl, length-set}
use Rattle.columns.proofs.Puts.{put_one}
use Rattle.sheets.proofs.lines.LineWriter.put_byte.Goals as goal

pub returns : goal.returns
returns c =
    let w = c.args.self.now in
    record { same_buffer = refl; same_length = length-set _ w.at c.args.byte; wrote = put_one w.out.now w.at c.args.byte c.requires; counted = refl; next = refl }
