use Rattle.charts.proofs.Edits.{below_first, entered_shown, edited}
use Rattle.charts.proofs.written.WrittenChart.enter.Goals as goal

pub returns-clause-edit : goal.returns-clause-edit
returns-clause-edit g c =
    let k = g.K.CostKind in
    let s = c.args.self.now in
    edited k.kind k.row s.ports _ c.args.n _ s.table.now _ _ (below_first s.table.now c.args.n _) c.enter_at.ensures.answer c.enter_at.ensures.table

pub returns-clause-shown : goal.returns-clause-shown
returns-clause-shown g c e = let s = c.args.self.now in entered_shown g.K.CostKind.kind g.K.CostKind.row s.ports c.args.n c.args.leg s.table.now _ e c.enter_at.ensures.table
