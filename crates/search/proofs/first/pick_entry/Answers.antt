use Rattle.std.proofs.Common.{sym, arith}
use Rattle.search.proofs.first.pick_entry.Goals as goal

pub bounds-picks-to : goal.bounds-picks-to
bounds-picks-to g c = let a = c.requires.within.legs_allowed c.args.n _ (sym c.in-Leg.ensures) in omega (arith, c.requires.picked.long)

pub bounds-picks-to-then-is_preferred : goal.bounds-picks-to-then-is_preferred
bounds-picks-to-then-is_preferred g c = let a = c.requires.within.legs_allowed c.args.n _ (sym c.in-Leg.ensures) in omega (arith, c.requires.picked.long)
