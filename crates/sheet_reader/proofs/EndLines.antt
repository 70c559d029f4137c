-- What comes of an end line. Assumes nothing.
use Rattle.std.proofs.Common.{◌≡◌, ℕ, ◌+◌, ◌≤◌, List, ◌∷◌, ◌++◌, length, drop, nat_abs, sym, ap, ◌∙◌, subst, arith}
use Rattle.std.proofs.lemmas.List.{append_assoc}
use Rattle.limits.specs.Numbers.{most_places}
use Rattle.limits.specs.declared.refusal.Refusal.TheVariants.{Malformed}
use Rattle.rows.specs.Rows.{Row, Narrow}
use Rattle.rows.specs.Kinds.{Kind}
use Rattle.columns.proofs.Columns.{shows_same}
use Rattle.sheets.specs.Form.{end_letter, Sheet, end_line, end_length, sheet_bytes, summed_hours, summed_cost}
use Rattle.sheets.specs.declared.tally.Tally.{Tally}
use Rattle.sheets.specs.Begun.{Begun, tallied}
use Rattle.sheets.specs.Writing.{numbers_of}
use Rattle.sheets.proofs.Sums.{rows_same}
use Rattle.sheet_texts.specs.Columns.{EndColumns}
use Rattle.sheet_texts.specs.Faults.{Limits, Readable, FaultAt, front_bytes, last_line}
use Rattle.sheet_texts.proofs.Lines.{end_columns_line, end_columns_long}
use Rattle.sheet_texts.proofs.Same.{last_line_columns, summed_narrow}
use Rattle.sheet_reader.specs.declared.reader.Reader.TheVariants.{Legs, Ended}
use Rattle.sheet_reader.specs.Reading.{InLegs, AtEnd, Advances, Stops}
use Rattle.sheet_reader.proofs.LegLines.{no_leg_line}

-- an end line shows one count and one sum
end_columns_same : {n a b g h : ℕ} {c d : Row} {cols : List ℕ} → Narrow n c → Narrow n d → EndColumns n cols a g c → EndColumns n cols b h d → (a ≡ b) × (g ≡ h) × (c ≡ d)
end_columns_same {n = n} {c = c} {d = d} narrow_c narrow_d x y = (
  ap nat_abs (shows_same x.legs_shown y.legs_shown),
  ap nat_abs (shows_same x.hours_shown y.hours_shown),
  rows_same n c d (λ i below. shows_same (x.cost_shown i below) (y.cost_shown i below)) narrow_c narrow_d,
)

module _ (k : Kind) (m : Limits) (cols : List ℕ) (t : Tally) where
  -- the numbers of an end line are those of the lines before it
  abbrev HasSums : ℕ → ℕ → Row → Type 0
  HasSums legs hours cost = (legs ≡ (tallied t).legs) × (hours ≡ (tallied t).hours) × (cost ≡ (tallied t).cost)

  no_end : ((s : Sheet) (more : List ℕ) → Readable k m s → tallied t ≡ numbers_of k.places s → end_letter ∷ cols ≡ last_line k.places s ++ more → ⊥)
      → Stops k m (Legs t) (end_letter ∷ cols) Malformed
  no_end none text line _ at =
      subst (FaultAt k m text Malformed) (sym at.line_is)
      (FaultAt.no_line at.sheet (end_letter ∷ cols) at.readable at.front
      (λ l more _ is. no_leg_line k.places l end_letter cols more (λ same. omega (arith, same)) is)
      (λ more is. none at.sheet more at.readable at.numbers is))

  pub end_malformed : k.places ≤ most_places → ((legs hours : ℕ) (cost : Row) → EndColumns k.places cols legs hours cost → ⊥) → Stops k m (Legs t) (end_letter ∷ cols) Malformed
  end_malformed few none = no_end (λ s more readable _ is. none _ _ _ (last_line_columns k m s cols more few readable is))

  pub sums_differ : k.places ≤ most_places → (legs hours : ℕ) (cost : Row) → EndColumns k.places cols legs hours cost → Narrow k.places cost
      → (HasSums legs hours cost → ⊥) → Stops k m (Legs t) (end_letter ∷ cols) Malformed
  sums_differ few legs hours cost h narrow differ = no_end (λ s more readable numbers is.
      let same = end_columns_same narrow (summed_narrow k m s readable) h (last_line_columns k m s cols more few readable is) in
      differ (
        same.0 ∙ sym (ap (λ (b : Begun). b.legs) numbers),
        same.1 ∙ sym (ap (λ (b : Begun). b.hours) numbers),
        same.2 ∙ sym (ap (λ (b : Begun). b.cost) numbers),
      ))

  pub end_taken : (legs hours : ℕ) (cost : Row) → EndColumns k.places cols legs hours cost → HasSums legs hours cost
      → Advances k m (Legs t) (Ended t) (end_letter ∷ cols) (end_length k.places)
  unfolding sheet_bytes
  end_taken legs hours cost h sums =
      record { some = omega arith; within = end_columns_long k.places legs hours cost cols h; stands = whole }
    where
      left : List ℕ
      left = drop (end_length k.places) (end_letter ∷ cols)

      whole : (text : List ℕ) (line : ℕ) → InLegs k m text (tallied t) (end_letter ∷ cols) line → AtEnd k m text (tallied t) left (line + 1)
      whole text line at =
          let n : ℕ = k.places in
          let s : Sheet = at.sheet in
          let same_legs : legs ≡ length s.legs = sums.0 ∙ ap (λ (b : Begun). b.legs) at.numbers in
          let same_hours : hours ≡ summed_hours s.legs = sums.1 ∙ ap (λ (b : Begun). b.hours) at.numbers in
          let same_cost : cost ≡ summed_cost s.legs = sums.2 ∙ ap (λ (b : Begun). b.cost) at.numbers in
          let same : end_line n legs hours cost ≡ last_line n s = rw (same_legs, same_hours, same_cost) in
          record {
            sheet = s;
            readable = at.readable;
            numbers = at.numbers;
            whole =
                at.front ∙ ap (λ (rest : List ℕ). front_bytes n s ++ rest) (end_columns_line n legs hours cost cols h ∙ ap (λ (line : List ℕ). line ++ left) same)
                ∙ sym (append_assoc (front_bytes n s) (last_line n s) left);
            line_is = omega (arith, at.line_is);
          }
