use Rattle.std.proofs.Common.{◌++◌}
use Rattle.std.specs.Fmt.{HasWritten, IsPlainFormatter}
use Rattle.triangle_facts.specs.Listing.{counts_text, lines_below}
use Rattle.triangle_facts.proofs.listing.ListingDisplay.fmt.Given as goal

-- the counts, and the lines of the numbers below this one
abbrev pub invariant-loop-n : goal.invariant-loop-n
invariant-loop-n g l =
    IsPlainFormatter l.fn.f
    → HasWritten g.W.Write.write_str_gives l.fn.f (counts_text (g.C.Chart.meaning l.chart) ++ lines_below (g.C.Chart.meaning l.chart) l.n-counter) l.f
