use Rattle.std.proofs.Common.{ℕ, mul-zero, arith, rules}
use Rattle.sheets.specs.Places.{row_of}
use Rattle.sheets.specs.Form.{place_columns}
use Rattle.sheets.proofs.Sums.{place_read}
use Rattle.sheets.proofs.Writing.{place_small, puts_none, puts_place}
use Rattle.sheets.proofs.lines.LineWriter.put_places.Goals as goal

pub loop-number-init : goal.loop-number-init
unfolding place_columns
loop-number-init g c = rw mul-zero (puts_none c.args.self.now)

pub put_number-requires-clause-fits : goal.put_number-requires-clause-fits
put_number-requires-clause-fits g c =
    let i : ℕ = c.loop-number.number-index in
    let read = place_read c.args.places c.place_count.result i (search rules) (search rules) (omega arith) in
    (c.requires.fits.0, rw read (omega (arith, place_small (row_of c.args.places) i)))

pub loop-number-preserved : goal.loop-number-preserved
loop-number-preserved g c =
    let i : ℕ = c.loop-number.number-index in
    let read = place_read c.args.places c.place_count.result i (search rules) (search rules) (omega arith) in
    puts_place c.args.width i (row_of c.args.places) (omega arith) c.loop-number.invariant (rw read at c.put_number.ensures)
