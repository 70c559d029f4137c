-- What comes of a text that is out, and of a letter that is not wanted. Assumes nothing.
use Rattle.std.proofs.Common.{◌≡◌, ℕ, ◌-◌, ◌<◌, List, ◌∷◌, ◌++◌, length, get_or, take, drop, sym, ap, ◌∙◌, subst, arith}
use Rattle.std.proofs.lemmas.List.{get_or_past}
use Rattle.std.proofs.lemmas.Slice.{first_rest}
use Rattle.limits.specs.declared.refusal.Refusal.TheVariants.{Malformed}
use Rattle.rows.specs.Kinds.{Kind}
use Rattle.sheets.specs.declared.form.Form.TheVariants.{Chart}
use Rattle.sheets.specs.Form.{form_letter, leg_letter, end_letter, Numbered, Sheet, head_line, leg_line, end_line}
use Rattle.sheets.specs.declared.tally.Tally.{Tally}
use Rattle.sheet_texts.specs.Faults.{Limits, FaultAt, last_line}
use Rattle.sheet_reader.specs.declared.reader.Reader.{Reader}
use Rattle.sheet_reader.specs.declared.reader.Reader.TheVariants.{Head, Legs, Ended}
use Rattle.sheet_reader.specs.Reading.{Stops}

-- the letter that a text begins with; 0 where it is out
abbrev pub letter_of : List ℕ → ℕ
letter_of text = get_or text 0 0

head_letter : (n p : ℕ) (text more : List ℕ) → text ≡ head_line n Chart p ++ more → letter_of text ≡ form_letter Chart
unfolding head_line
head_letter n p text more is = ap letter_of is

leg_line_letter : (n : ℕ) (l : Numbered) (text more : List ℕ) → text ≡ leg_line n l ++ more → letter_of text ≡ leg_letter
unfolding leg_line
leg_line_letter n l text more is = ap letter_of is

last_line_letter : (n : ℕ) (s : Sheet) (text more : List ℕ) → text ≡ last_line n s ++ more → letter_of text ≡ end_letter
unfolding end_line
last_line_letter n s text more is = ap letter_of is

module _ (k : Kind) (m : Limits) (rest : List ℕ) where
  pub no_head_letter : (letter_of rest ≡ form_letter Chart → ⊥) → Stops k m Head rest Malformed
  no_head_letter other text line _ at =
      subst (FaultAt k m text Malformed) (sym at.1) (FaultAt.no_head (λ p more _ is. other (head_letter k.places p rest more (at.0 ∙ is))))

  pub no_line_letter : (t : Tally) → (letter_of rest ≡ leg_letter → ⊥) → (letter_of rest ≡ end_letter → ⊥) → Stops k m (Legs t) rest Malformed
  no_line_letter t no_leg no_end text line _ at =
      subst (FaultAt k m text Malformed) (sym at.line_is)
      (FaultAt.no_line at.sheet rest at.readable at.front
      (λ l more _ is. no_leg (leg_line_letter k.places l rest more is))
      (λ more is. no_end (last_line_letter k.places at.sheet rest more is)))

  pub text_left_over : (t : Tally) → Stops k m (Ended t) rest Malformed
  text_left_over t text line some at =
      subst (FaultAt k m text Malformed) (sym at.line_is) (FaultAt.left_over at.sheet rest at.readable at.whole (some tt))

  -- nothing is left, though a line is wanted
  pub text_out : (r : Reader) → length rest ≡ 0 → Stops k m r rest Malformed
  text_out r none = by_reader r
    where
      out : letter_of rest ≡ 0
      out = get_or_past rest 0 0 (omega (arith, none))

      by_reader : (r : Reader) → Stops k m r rest Malformed
      by_reader Head = no_head_letter (λ is. omega (arith, out, is))
      by_reader (Legs t) = no_line_letter t (λ is. omega (arith, out, is)) (λ is. omega (arith, out, is))
      by_reader (Ended t) = text_left_over t

-- a text by its first byte and the rest, as a slice pattern gives them
pub first_then : (xs : List ℕ) (b : ℕ) → 0 < length xs → get_or xs 0 0 ≡ b → b ∷ take (length xs - 1) (drop 1 xs) ≡ xs
first_then xs b some is = sym (first_rest xs 0 some ∙ ap (λ (y : ℕ). y ∷ take (length xs - 1) (drop 1 xs)) is)
