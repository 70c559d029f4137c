use Rattle.std.proofs.Common.{◌≡◌, ℕ, drop, set, Some, sym, ap, ◌∙◌, subst}
use Rattle.std.proofs.lemmas.Bool.{some_since}
use Rattle.std.proofs.lemmas.List.{map-set, take_rest}
use Rattle.limits.specs.Numbers.{most_ports}
use Rattle.charts.specs.Meaning.{Figures, Allowed}
use Rattle.sheets.specs.Form.{Numbered}
use Rattle.sheet_texts.specs.Lines.{line_leg}
use Rattle.sheet_reader.specs.Tables.{place_figures, table_figures}
use Rattle.sheet_reader.proofs.Placing.{first_line, read_same}
use Rattle.sheet_reader.proofs.filling.place_leg.Goals as goal

pub unwrap-line-requires : goal.unwrap-line-requires
unwrap-line-requires g c = some_since _ _ _ c.first_leg.ensures (λ none. none c.requires.0 (first_line c.requires.2).columns)

pub leg_of-requires : goal.leg_of-requires
leg_of-requires g c =
    let line = c.unwrap-line.result in
    let row = g.K.CostKind.row in
    let read = rw c.unwrap-line.ensures at c.first_leg.ensures in
    let same : line_leg row line ≡ c.requires.0 = read_same c.requires.1 (line_leg row line) c.requires.2 (g.K.CostKind.narrow line.cost) read in
    subst (λ (l : Numbered). Allowed g.K.CostKind.kind most_ports l.leg) (sym same) c.requires.2.0.allowed

pub returns : goal.returns
returns g c =
    let row = g.K.CostKind.row in
    let text = c.args.text.now in
    let table = c.args.table.now in
    let line = c.unwrap-line.result in
    let read = rw c.unwrap-line.ensures at c.first_leg.ensures in
    record {
      rest = λ l more next. take_rest text c.leg_line_length.result ∙ ap (λ (n : ℕ). drop n text) c.leg_line_length.ensures ∙ (first_line next).rest;
      table = λ l more next.
          ap (table_figures row) c.put.ensures
          ∙ map-set (place_figures row) table line.number (Some c.leg_of.result)
          ∙ ap (λ (f : Figures). set (table_figures row table) line.number (Some f)) c.leg_of.ensures
          ∙ ap (λ (x : Numbered). set (table_figures row table) x.number (Some x.leg)) (read_same more (line_leg row line) next (g.K.CostKind.narrow line.cost) read);
    }
