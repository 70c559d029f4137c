-- The legs of lines, put into a table one after the other. Assumes nothing.
use Rattle.std.proofs.Common.{◌≡◌, ℕ, ◌+◌, ◌<◌, List, [], ◌∷◌, ◌++◌, set, Some, Option, ap, ◌∙◌, arith}
use Rattle.std.proofs.lemmas.List.{append_assoc}
use Rattle.rows.specs.Kinds.{Kind}
use Rattle.charts.specs.Meaning.{Figures}
use Rattle.sheets.specs.Form.{Numbered, leg_line, leg_lines}
use Rattle.sheet_reader.specs.Tables.{placed, LegNext, LegsNext}

-- with so many lines left, the table is on its way to the whole
pub record LegsLeft (k : Kind) (size legs : ℕ) (text more : List ℕ) (table whole : List (Option Figures)) : Type 0 where
  pub left : List Numbered
  pub next : LegsNext k size legs text left more
  pub filled : placed left table ≡ whole

first_next : (k : Kind) (size legs : ℕ) (text more : List ℕ) (l : Numbered) (ls : List Numbered) → LegsNext k size legs text (l ∷ ls) more → LegNext k size text l (leg_lines k.places ls ++ more)
unfolding leg_lines
first_next k size legs text more l ls h = (h.placeable.0, h.lines ∙ append_assoc (leg_line k.places l) (leg_lines k.places ls) more)

module _ (k : Kind) (size legs : ℕ) (text more : List ℕ) (table whole : List (Option Figures)) where
  pub leg_first : LegsLeft k size legs text more table whole → 0 < legs → (l : Numbered) × (rest : List ℕ) × LegNext k size text l rest
  leg_first h some = go h.left h.next
    where
      go : (ls : List Numbered) → LegsNext k size legs text ls more → (l : Numbered) × (rest : List ℕ) × LegNext k size text l rest
      go [] n = absurd (omega (arith, n.count))
      go (l ∷ ls) n = (l, leg_lines k.places ls ++ more, first_next k size legs text more l ls n)

  pub leg_placed : (rest : List ℕ) (table' : List (Option Figures)) (left : ℕ) → LegsLeft k size legs text more table whole → legs ≡ left + 1
      → ((l : Numbered) (after : List ℕ) → LegNext k size text l after → rest ≡ after)
      → ((l : Numbered) (after : List ℕ) → LegNext k size text l after → table' ≡ set table l.number (Some l.leg))
      → LegsLeft k size left rest more table' whole
  leg_placed rest table' left h one rest_is table_is = go h.left h.next h.filled
    where
      go : (ls : List Numbered) → LegsNext k size legs text ls more → placed ls table ≡ whole → LegsLeft k size left rest more table' whole
      go [] n filled = absurd (omega (arith, n.count))
      go (l ∷ ls) n filled =
          let first = first_next k size legs text more l ls n in
          record {
            left = ls;
            next = record { placeable = n.placeable.1; count = omega (arith, n.count); lines = rest_is l _ first };
            filled = ap (placed ls) (table_is l _ first) ∙ filled;
          }
