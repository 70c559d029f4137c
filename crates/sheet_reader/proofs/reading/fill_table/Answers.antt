use Rattle.std.proofs.Common.{ℕ, length, ap, ◌∙◌, subst, arith, rules}
use Rattle.std.proofs.lemmas.List.{take_rest}
use Rattle.sheets.specs.Form.{head_length}
use Rattle.sheets.specs.Begun.{tallied}
use Rattle.sheet_texts.specs.Faults.{last_line}
use Rattle.sheet_reader.specs.Reading.{limits_of, Whole}
use Rattle.sheet_reader.specs.Tables.{table_figures, placed}
use Rattle.sheet_reader.proofs.ReadBack.{head_long, lines_next, blank_figures, read_all}
use Rattle.sheet_reader.proofs.reading.fill_table.Goals as goal

pub place_legs-requires : goal.place_legs-requires
place_legs-requires g c =
    let k = g.K.CostKind.kind in
    let w = c.requires.checked in (
      w.sheet.legs,
      last_line k.places w.sheet,
      lines_next k (limits_of c.args.bounds) c.args.text.now (tallied c.args.tally.now) g.K.CostKind.lawful.few_places w (length c.clear_table.new.table) _
          (omega (arith, c.requires.size)) (take_rest c.args.text.now head_length),
    )

pub returns : goal.returns
returns g c =
    let k = g.K.CostKind.kind in
    let row = g.K.CostKind.row in
    let text = c.args.text.now in
    let b = tallied c.args.tally.now in
    let table = c.args.table.now in
    let few = g.K.CostKind.lawful.few_places in
    let w = subst (λ (size : ℕ). Whole k (record { ports = c.args.bounds.ports; numbers = size }) text b) c.requires.size c.requires.checked in
    let legs = w.sheet.legs in
    let next = lines_next k (record { ports = c.args.bounds.ports; numbers = length table }) text b few w (length c.clear_table.new.table) _ (omega arith) (take_rest text head_length) in
    let filled = c.place_legs.ensures legs (last_line k.places w.sheet) next ∙ ap (λ t. placed legs (table_figures row t)) c.clear_table.ensures ∙ ap (placed legs) (blank_figures row (length table)) in
    read_all k row c.args.bounds.ports text table few (omega (arith, c.requires.size, c.args.bounds.few)) c.place_legs.new.table b w filled (omega arith)

pub slice_bounds-place_legs-count : goal.slice_bounds-place_legs-count
slice_bounds-place_legs-count g c = head_long g.K.CostKind.kind (limits_of c.args.bounds) c.args.text.now (tallied c.args.tally.now) g.K.CostKind.lawful.few_places c.requires.checked

pub slice_bounds-place_legs-start : goal.slice_bounds-place_legs-start
slice_bounds-place_legs-start g c = let long = slice_bounds-place_legs-count g c in search rules
