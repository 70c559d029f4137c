-- What comes of a first line. Assumes nothing.
use Rattle.std.proofs.Common.{◌≡◌, ℕ, ◌+◌, ◌≤◌, min, List, [], ◌∷◌, ◌++◌, drop, Some, None, sym, refl, ap, ◌∙◌, subst, zero-mul, arith}
use Rattle.std.proofs.lemmas.List.{append-nil}
use Rattle.limits.specs.Numbers.{most_ports, most_places}
use Rattle.limits.specs.declared.refusal.Refusal.{Refusal}
use Rattle.limits.specs.declared.refusal.Refusal.TheVariants.{Malformed}
use Rattle.rows.specs.Kinds.{Kind}
use Rattle.charts.specs.Limits.{port_count_refusal}
use Rattle.columns.proofs.Columns.{shows_fits}
use Rattle.sheets.specs.declared.form.Form.TheVariants.{Chart}
use Rattle.sheets.specs.Form.{form_letter, Sheet, head_line, leg_lines, head_length, leg_length}
use Rattle.sheets.specs.declared.tally.Tally.{Tally}
use Rattle.sheets.specs.Begun.{tallied, opened}
use Rattle.sheets.proofs.Held.{numbers_same}
use Rattle.sheets.proofs.Taken.{port_count_taken}
use Rattle.sheet_texts.specs.Columns.{HeadColumns}
use Rattle.sheet_texts.specs.Faults.{Limits, FaultAt}
use Rattle.sheet_texts.proofs.Lines.{head_columns_line, head_line_columns, head_columns_long}
use Rattle.sheet_reader.specs.declared.reader.Reader.TheVariants.{Head, Legs}
use Rattle.sheet_reader.specs.Reading.{InLegs, Advances, Stops}

module _ (k : Kind) (m : Limits) (cols : List ℕ) where
  pub head_malformed : k.places ≤ most_places → ((p : ℕ) → HeadColumns k.places cols p → ⊥) → Stops k m Head (form_letter Chart ∷ cols) Malformed
  head_malformed few none text line _ at =
      subst (FaultAt k m text Malformed) (sym at.1) (FaultAt.no_head (λ p rest fits is. none p (head_line_columns k.places p cols rest few fits (at.0 ∙ is))))

  pub head_refused : (p : ℕ) (e : Refusal) → HeadColumns k.places cols p → port_count_refusal (min m.ports most_ports) p ≡ Some e → Stops k m Head (form_letter Chart ∷ cols) e
  head_refused p e h why text line _ at =
      subst (FaultAt k m text e) (sym at.1)
      (FaultAt.ports_refused p (drop head_length (form_letter Chart ∷ cols)) e (shows_fits h.ports_shown) (sym at.0 ∙ head_columns_line k.places p cols h) why)

  pub head_taken : (t : Tally) (p : ℕ) → HeadColumns k.places cols p → port_count_refusal (min m.ports most_ports) p ≡ None → tallied t ≡ opened Chart p
      → Advances k m Head (Legs t) (form_letter Chart ∷ cols) head_length
  unfolding leg_lines
  head_taken t p h none numbers =
      record { some = omega arith; within = head_columns_long k.places p cols h; stands = begun }
    where
      begun : (text : List ℕ) (line : ℕ) → (form_letter Chart ∷ cols ≡ text) × (line ≡ 1) → InLegs k m text (tallied t) (drop head_length (form_letter Chart ∷ cols)) (line + 1)
      begun text line at =
          let count = port_count_taken (min m.ports most_ports) p none in
          let s : Sheet = record { form = Chart; ports = p; legs = [] } in
          record {
            sheet = s;
            readable = record {
              chart = refl;
              proper = record { some_port = count.0; few_ports = omega (arith, count.1); few_legs = omega arith; legs_proper = tt };
              few_ports = omega (arith, count.1);
              numbers_below = tt;
            };
            numbers = numbers ∙ numbers_same refl refl (omega (arith, zero-mul (leg_length k.places))) refl refl refl refl;
            front =
                sym at.0 ∙ head_columns_line k.places p cols h
                ∙ ap (λ (front : List ℕ). front ++ drop head_length (form_letter Chart ∷ cols)) (sym (append-nil (head_line k.places Chart p)));
            line_is = omega (arith, at.1);
          }
