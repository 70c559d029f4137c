use Rattle.std.proofs.Common.{length-set, ◌∙◌, arith, rules}
use Rattle.sheet_texts.proofs.Places.{place_put, read_more}
use Rattle.sheet_texts.proofs.line.read_places.Goals as goal

pub loop-i-preserved : goal.loop-i-preserved
loop-i-preserved c =
    let places = c.loop-i.places in
    let long = c.loop-i.invariant.1 in (
      read_more c.in_ok-z.z c.loop-i.invariant.0 c.in_ok-z.ensures.0 c.in_ok-z.ensures.1
          (search (rules, place_put places c.loop-i.i c.in_ok-z.z long (omega arith))),
      length-set places.numbers c.loop-i.i _ ∙ long,
    )
