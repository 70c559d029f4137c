use Rattle.std.proofs.Common.{length, ap, arith}
use Rattle.columns.proofs.Putting.{fits_kept, by_sign, length_place}
use Rattle.columns.proofs.put_number.Goals as goal

pub put_numeral-requires : goal.put_numeral-requires
put_numeral-requires g c =
    let z = g.N.Numeral.number c.args.n in
    let fits = fits_kept c.args.width g.N.Numeral.sign_width z (g.met.N.Numeral.minus_fits c.args.n) c.requires.fits.0 c.requires.fits.1 in
    let same = by_sign z _ _ c.sign_and_size-negative.ensures.negative c.sign_and_size-negative.ensures.size in
    omega (arith, ap length same, length_place c.args.out.now c.args.at c.args.width c.requires.room)
