-- The leg of a line, found again in a text that was checked, and put into a table. Assumes nothing.
use Rattle.std.proofs.Common.{◌≡◌, ℕ, List, ◌∷◌, ◌++◌, drop, sym, ap, ◌∙◌, subst}
use mathlib.Core.List.{append_cancel_left}
use Rattle.rows.specs.Rows.{Narrow}
use Rattle.rows.specs.Kinds.{Kind}
use Rattle.sheets.specs.Form.{leg_letter, Numbered, leg_line, leg_length}
use Rattle.sheet_texts.specs.Columns.{LegColumns}
use Rattle.sheet_texts.proofs.Lines.{leg_columns_line, leg_line_columns}
use Rattle.sheet_texts.proofs.Same.{leg_columns_same}
use Rattle.sheet_reader.specs.Tables.{LegNext}

-- a text that begins with a leg line
pub record FirstLine (n : ℕ) (text : List ℕ) (l : Numbered) (more : List ℕ) : Type 0 where
  pub columns : LegColumns n (drop 1 text) l
  pub rest : drop (leg_length n) text ≡ more

letter_first : (n : ℕ) (l : Numbered) (text more : List ℕ) → text ≡ leg_line n l ++ more → leg_letter ∷ drop 1 text ≡ text
unfolding leg_line
letter_first n l text more is = ap (λ (xs : List ℕ). leg_letter ∷ drop 1 xs) is ∙ sym is

pub first_line : {k : Kind} {size : ℕ} {text : List ℕ} {l : Numbered} {more : List ℕ} → LegNext k size text l more → FirstLine k.places text l more
first_line {k = k} {text = text} {l = l} {more = more} next =
    let n : ℕ = k.places in
    let letter : leg_letter ∷ drop 1 text ≡ text = letter_first n l text more next.1 in
    let columns : LegColumns n (drop 1 text) l = leg_line_columns n l (drop 1 text) more next.0.fits (letter ∙ next.1) in
    let again : text ≡ leg_line n l ++ drop (leg_length n) text = subst (λ (xs : List ℕ). xs ≡ leg_line n l ++ drop (leg_length n) xs) letter (leg_columns_line n l (drop 1 text) columns) in
    record {
      columns = columns;
      rest = append_cancel_left (leg_line n l) (drop (leg_length n) text) more (sym again ∙ next.1);
    }

-- what is read of it is its leg
pub read_same : {k : Kind} {size : ℕ} {text : List ℕ} {l : Numbered} (more : List ℕ) (r : Numbered) → LegNext k size text l more → Narrow k.places r.leg.cost
    → LegColumns k.places (drop 1 text) r → r ≡ l
read_same {k = k} {text = text} {l = l} more r next narrow columns =
    leg_columns_same k.places r l (drop 1 text) narrow next.0.narrow columns (first_line next).columns
