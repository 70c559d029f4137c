use Rattle.charts.proofs.Edits.{used_first, edited}
use Rattle.charts.proofs.written.WrittenChart.reprice.Goals as goal

pub returns-clause-edit : goal.returns-clause-edit
returns-clause-edit g c =
    let k = g.K.CostKind in
    let s = c.args.self.now in
    edited k.kind k.row s.ports _ c.args.n _ s.table.now _ _ (used_first s.table.now c.args.n _) c.reprice_at.ensures.answer c.reprice_at.ensures.table
