use Rattle.std.proofs.Common.{ℕ, pos, nat_abs, ap, subst}
use Rattle.columns.specs.Columns.{Shows}
use Rattle.columns.proofs.Columns.{shows_same}
use Rattle.sheet_texts.proofs.line.read_head.Goals as goal

pub returns-then-shown-places : goal.returns-then-shown-places
returns-then-shown-places c p h =
    let shown = subst (λ (at : ℕ). Shows c.args.columns.now at 5 (pos c.in_ok-shown.shown)) c.in_ok-ports.ensures.1 c.in_ok-shown.ensures.0 in
    c.if-shown-places.true (ap nat_abs (shows_same shown h.places_shown))
