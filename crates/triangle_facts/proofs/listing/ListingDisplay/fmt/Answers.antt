use Rattle.triangle_facts.proofs.Told.{line_written}
use Rattle.triangle_facts.proofs.listing.ListingDisplay.fmt.Goals as goal

pub loop-n-preserved : goal.loop-n-preserved
loop-n-preserved g c = λ plain.
    line_written _ _ _ _ _ c.loop-n.n-counter c.entry.result c.entry.ensures (c.loop-n.invariant plain) c.in_ok-writeln-2.ensures.writes
