-- A text that is read to its end. Assumes nothing.
use Rattle.std.proofs.Common.{◌≡◌, ℕ, ◌≤◌, List, [], ◌∷◌, ◌++◌, length, Some, None, Option, refl, ap, ◌∙◌, subst, arith, MatchOption}
use Rattle.std.specs.Option.{ok_or}
use Rattle.std.proofs.lemmas.List.{append-nil}
use Rattle.limits.specs.Numbers.{most_places}
use Rattle.limits.specs.declared.refusal.Refusal.{Refusal}
use Rattle.limits.specs.declared.refusal.Refusal.TheVariants.{Malformed}
use Rattle.rows.specs.Kinds.{Kind}
use Rattle.sheets.specs.declared.tally.Tally.{Tally}
use Rattle.sheets.specs.Form.{sheet_bytes}
use Rattle.sheets.specs.Begun.{tallied}
use Rattle.sheet_texts.specs.Faults.{Limits, FaultAt}
use Rattle.sheet_texts.proofs.OneSheet.{sound_sheet}
use Rattle.sheet_reader.specs.declared.reader.Reader.{Reader}
use Rattle.sheet_reader.specs.declared.reader.Reader.TheVariants.{Ended}
use Rattle.sheet_reader.specs.Reading.{AtEnd, Stands, HasEnded, Whole, AtFault, Checks}
use Rattle.sheet_reader.proofs.OtherLines.{text_out}

none_left : (xs : List ℕ) → length xs ≡ 0 → xs ≡ []
none_left [] none = refl
none_left (x ∷ xs) none = absurd (omega (arith, none))

module _ (k : Kind) (m : Limits) (text : List ℕ) (few : k.places ≤ most_places) where
  whole_read : (t : Tally) (rest : List ℕ) (line : ℕ) → length rest ≡ 0 → AtEnd k m text (tallied t) rest line → Whole k m text (tallied t)
  whole_read t rest line none at =
      let bytes = sheet_bytes k.places at.sheet in
      record {
        sheet = at.sheet;
        readable = at.readable;
        numbers = at.numbers;
        whole = at.whole ∙ ap (λ (xs : List ℕ). bytes ++ xs) (none_left rest none) ∙ append-nil bytes;
      }

  pub at_fault : (e : Refusal) (line : ℕ) → FaultAt k m text e line → AtFault k m text (record { refusal = e; line = Some line })
  at_fault e line fault =
      record {
        fault = fault;
        no_sheet = λ s readable is. sound_sheet k m s e line few readable (subst (λ (xs : List ℕ). FaultAt k m xs e line) is fault);
      }

  -- nothing is left: the tally of a whole sheet, or a line that is wanted and not there
  pub text_read : (r : Reader) (rest : List ℕ) (line : ℕ) (whole : Option Tally) → length rest ≡ 0 → Stands k m text r rest line
      → MatchOption whole (HasEnded r → ⊥) (λ (t : Tally). r ≡ Ended t) → Checks k m text (ok_or whole (record { refusal = Malformed; line = Some line }))
  text_read r rest line None none stands wanted = at_fault Malformed line (text_out k m rest r none text line (λ ended _. wanted ended) stands)
  text_read r rest line (Some t) none stands is = whole_read t rest line none (subst (λ (x : Reader). Stands k m text x rest line) is stands)
