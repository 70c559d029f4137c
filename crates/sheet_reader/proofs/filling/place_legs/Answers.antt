use Rattle.std.proofs.Common.{ℕ, ◌+◌, ◌-◌, List, length, sym, subst, arith}
use Rattle.sheets.specs.Form.{Numbered}
use Rattle.sheet_reader.specs.Tables.{table_figures, placed, LegNext}
use Rattle.sheet_reader.proofs.Placed.{leg_first, leg_placed}
use Rattle.sheet_reader.proofs.filling.place_legs.Goals as goal

pub place_leg-rest-requires : goal.place_leg-rest-requires
place_leg-rest-requires g c =
    let k = g.K.CostKind.kind in
    let row = g.K.CostKind.row in
    let table = c.args.table.now in
    let ls = c.requires.0 in
    let more = c.requires.1 in
    let rest = c.loop-line.rest.now in
    subst (λ (size : ℕ). (l : Numbered) × (after : List ℕ) × LegNext k size rest l after) (sym c.loop-line.invariant.0)
    (leg_first k (length table) (c.args.legs - c.loop-line._line) rest more (table_figures row c.loop-line.table) (placed ls (table_figures row table)) (c.loop-line.invariant.1 ls more c.requires.2) (omega arith))

pub loop-line-preserved : goal.loop-line-preserved
loop-line-preserved g c =
    let k = g.K.CostKind.kind in
    let row = g.K.CostKind.row in
    let table = c.args.table.now in
    let rest = c.loop-line.rest.now in
    let same = c.loop-line.invariant.0 in
    let figures = table_figures row c.loop-line.table in
    let figures' = table_figures row c.place_leg-rest.new.table in
    let rest' = c.place_leg-rest.result.now in (
      omega (arith, same),
      λ ls more h. leg_placed k (length table) (c.args.legs - c.loop-line._line) rest more figures (placed ls (table_figures row table)) rest' figures' (c.args.legs - (c.loop-line._line + 1))
          (c.loop-line.invariant.1 ls more h) (omega arith)
          (λ l after next. c.place_leg-rest.ensures.rest l after (subst (λ (size : ℕ). LegNext k size rest l after) (sym same) next))
          (λ l after next. c.place_leg-rest.ensures.table l after (subst (λ (size : ℕ). LegNext k size rest l after) (sym same) next)),
    )
