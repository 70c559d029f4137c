use Rattle.std.proofs.Common.{get_or, None, sym, ap, ◌∙◌}
use Rattle.charts.specs.Written.{place_shown}
use Rattle.charts.proofs.Tables.{shown_place}
use Rattle.charts.proofs.table.read.Goals as goal

pub returns-in-None : goal.returns-in-None
returns-in-None g c = let k = g.K.CostKind in
    ap (place_shown k.kind k.row c.args.ports) (c.in-None.ensures ∙ ap (λ places. get_or places c.args.n None) c.read_part.ensures) ∙ sym (shown_place k.kind k.row c.args.ports c.args.table.now c.args.n)

pub returns-in-Some : goal.returns-in-Some
returns-in-Some g c = let k = g.K.CostKind in
    c.limited_entry.ensures ∙ ap (place_shown k.kind k.row c.args.ports) (c.in-Some.ensures ∙ ap (λ places. get_or places c.args.n None) c.read_part.ensures) ∙ sym (shown_place k.kind k.row c.args.ports c.args.table.now c.args.n)
