-- What comes of a leg line. Assumes nothing.
use Rattle.std.proofs.Common.{◌≡◌, ℕ, ◌+◌, ◌<◌, ◌≤◌, List, [], ◌∷◌, ◌++◌, get_or, drop, nat_abs, Some, None, sym, ap, ◌∙◌, subst, arith}
use Rattle.std.proofs.lemmas.List.{append_assoc, length-append}
use Rattle.std.proofs.ByRecursion.{All-push}
use Rattle.limits.specs.Numbers.{most_legs, most_hours, most_cost}
use Rattle.limits.specs.declared.refusal.Refusal.{Refusal}
use Rattle.limits.specs.declared.refusal.Refusal.TheVariants.{Malformed}
use Rattle.rows.specs.Rows.{place, Narrow}
use Rattle.rows.specs.Kinds.{Kind}
use Rattle.charts.specs.Limits.{leg_refusal}
use Rattle.sheets.specs.Places.{largest}
use Rattle.sheets.specs.Form.{leg_letter, Numbered, Sheet, head_line, leg_line, leg_lines, end_line, leg_length}
use Rattle.sheets.specs.declared.tally.Tally.{Tally}
use Rattle.sheets.specs.Begun.{Begun, tallied, with_leg, number_refusal_below}
use Rattle.sheets.specs.Writing.{with_line, numbers_of}
use Rattle.sheets.proofs.Held.{leg_lines_more, proper_more, numbers_more}
use Rattle.sheets.proofs.Sums.{largest_within}
use Rattle.sheets.proofs.Taken.{either_none, number_taken, leg_taken}
use Rattle.sheet_texts.specs.Columns.{LegColumns}
use Rattle.sheet_texts.specs.Faults.{Limits, Readable, FaultAt, front_bytes, last_line, next_refusal, next_leg_refusal}
use Rattle.sheet_texts.proofs.Lines.{leg_columns_line, leg_columns_fit, leg_line_columns, leg_columns_long}
use Rattle.sheet_reader.specs.declared.reader.Reader.TheVariants.{Legs}
use Rattle.sheet_reader.specs.Reading.{InLegs, Advances, Stops}

first_byte : {b c : ℕ} {bs cs : List ℕ} → b ∷ bs ≡ c ∷ cs → b ≡ c
first_byte e = ap (λ (xs : List ℕ). get_or xs 0 0) e

-- an end line begins with its letter
pub no_last_line : (n : ℕ) (s : Sheet) (b : ℕ) (bs more : List ℕ) → (b ≡ 69 → ⊥) → b ∷ bs ≡ last_line n s ++ more → ⊥
unfolding end_line
no_last_line n s b bs more other is = other (first_byte is)

-- a leg line begins with its letter
pub no_leg_line : (n : ℕ) (l : Numbered) (b : ℕ) (bs more : List ℕ) → (b ≡ leg_letter → ⊥) → b ∷ bs ≡ leg_line n l ++ more → ⊥
unfolding leg_line
no_leg_line n l b bs more other is = other (first_byte is)

-- a leg that is not refused can be counted
pub leg_fits : (k : Kind) (most : ℕ) (b : Begun) (l : Numbered) → most ≤ most_legs → ((i : ℕ) → nat_abs (place l.leg.cost i) ≤ k.size l.leg.cost) → next_refusal k most b l ≡ None
    → (l.number < most_legs) × ((l.leg.hours ≤ most_hours) × (largest l.leg.cost ≤ most_cost))
leg_fits k most b l limit bounded none =
    let both = either_none (number_refusal_below most b l.number) (leg_refusal k b.ports l.leg) none in
    let number = number_taken most b l.number both.0 in
    let allowed = leg_taken k b.ports l.leg both.1 in
    (omega (arith, number.0), (allowed.few_hours, omega (arith, largest_within l.leg.cost (k.size l.leg.cost) bounded, allowed.small_cost)))

-- the sheet that is read, with one leg more
readable_more : (k : Kind) (m : Limits) (s : Sheet) (l : Numbered) → m.numbers ≤ most_legs → Readable k m s → Narrow k.places l.leg.cost → largest l.leg.cost ≤ most_cost
    → next_leg_refusal k m s l ≡ None → Readable k m (with_line s l)
readable_more k m s l limit readable narrow small none =
    let both = either_none (number_refusal_below m.numbers (numbers_of k.places s) l.number) (leg_refusal k s.ports l.leg) none in
    let number = number_taken m.numbers (numbers_of k.places s) l.number both.0 in
    record {
      chart = readable.chart;
      proper = proper_more k s l readable.proper number.2 (record {
        from_least = number.1;
        below_limit = omega (arith, number.0);
        allowed = leg_taken k s.ports l.leg both.1;
        narrow = narrow;
        small = small;
      });
      few_ports = readable.few_ports;
      numbers_below = All-push (λ (x : Numbered). x.number < m.numbers) s.legs l readable.numbers_below number.0;
    }

module _ (k : Kind) (m : Limits) (cols : List ℕ) (t : Tally) where
  pub leg_malformed : ((l : Numbered) → LegColumns k.places cols l → ⊥) → Stops k m (Legs t) (leg_letter ∷ cols) Malformed
  leg_malformed none text line _ at =
      subst (FaultAt k m text Malformed) (sym at.line_is)
      (FaultAt.no_line at.sheet (leg_letter ∷ cols) at.readable at.front
      (λ l more fits is. none l (leg_line_columns k.places l cols more fits is))
      (λ more is. no_last_line k.places at.sheet leg_letter cols more (λ same. omega (arith, same)) is))

  -- the line, and what is left past it
  at_line : (l : Numbered) {text : List ℕ} {b : Begun} {line : ℕ} → LegColumns k.places cols l → (at : InLegs k m text b (leg_letter ∷ cols) line)
      → text ≡ front_bytes k.places at.sheet ++ (leg_line k.places l ++ drop (leg_length k.places) (leg_letter ∷ cols))
  at_line l h at = at.front ∙ ap (λ (rest : List ℕ). front_bytes k.places at.sheet ++ rest) (leg_columns_line k.places l cols h)

  pub leg_refused : (l : Numbered) (e : Refusal) → LegColumns k.places cols l → Narrow k.places l.leg.cost
      → next_refusal k m.numbers (tallied t) l ≡ Some e → Stops k m (Legs t) (leg_letter ∷ cols) e
  leg_refused l e h narrow why text line _ at =
      subst (FaultAt k m text e) (sym at.line_is)
      (FaultAt.leg_refused at.sheet l (drop (leg_length k.places) (leg_letter ∷ cols)) e at.readable (leg_columns_fit k.places l cols h) narrow (at_line l h at)
      (subst (λ (b : Begun). next_refusal k m.numbers b l ≡ Some e) at.numbers why))

  pub leg_line_taken : (t' : Tally) (l : Numbered) → m.numbers ≤ most_legs → LegColumns k.places cols l → Narrow k.places l.leg.cost → largest l.leg.cost ≤ most_cost
      → next_refusal k m.numbers (tallied t) l ≡ None
      → tallied t' ≡ with_leg k.places (tallied t) l → Advances k m (Legs t) (Legs t') (leg_letter ∷ cols) (leg_length k.places)
  leg_line_taken t' l limit h narrow small none numbers =
      record { some = omega arith; within = leg_columns_long k.places l cols h; stands = more }
    where
      more : (text : List ℕ) (line : ℕ) → InLegs k m text (tallied t) (leg_letter ∷ cols) line
          → InLegs k m text (tallied t') (drop (leg_length k.places) (leg_letter ∷ cols)) (line + 1)
      more text line at =
          let n : ℕ = k.places in
          let s : Sheet = at.sheet in
          let head : List ℕ = head_line n s.form s.ports in
          let left : List ℕ = drop (leg_length n) (leg_letter ∷ cols) in
          record {
            sheet = with_line s l;
            readable = readable_more k m s l limit at.readable narrow small
                (subst (λ (b : Begun). next_refusal k m.numbers b l ≡ None) at.numbers none);
            numbers = numbers ∙ ap (λ (b : Begun). with_leg n b l) at.numbers ∙ numbers_more n s l;
            front =
                at_line l h at ∙ sym (append_assoc (head ++ leg_lines n s.legs) (leg_line n l) left)
                ∙ ap (λ (front : List ℕ). front ++ left) (append_assoc head (leg_lines n s.legs) (leg_line n l) ∙ ap (λ (lines : List ℕ). head ++ lines) (sym (leg_lines_more n s.legs l)));
            line_is = omega (arith, at.line_is, length-append s.legs (l ∷ []));
          }
