-- The places of a cost, read one after the other. Assumes nothing.
use Rattle.std.proofs.Common.{◌≡◌, ℕ, ◌+◌, ◌*◌, ◌<◌, ◌≤◌, List, length, set, get_or-set_same, get_or-set_other, length-set, ℤ, pos, sym, ◌∙◌, subst, ⊎_elim, mul-one, mul-add, arith}
use Rattle.std.proofs.lemmas.Bool.{cases_lt}
use Rattle.limits.specs.Numbers.{most_places}
use Rattle.rows.specs.Rows.{place}
use Rattle.columns.specs.Columns.{Shows}
use Rattle.sheets.specs.declared.places.Places.{Places}
use Rattle.sheets.specs.Places.{row_of}
use Rattle.sheets.proofs.Sums.{place_at}
use Rattle.sheet_texts.specs.Lines.{Replaced, ReadPlaces}

-- a number that is put into a place replaces it
pub place_put : (p : Places) (i : ℕ) (z : ℤ) → length p.numbers ≡ most_places → i < most_places → Replaced (row_of p) i z (row_of (record { numbers = set p.numbers i z }))
place_put p i z long below =
    let p' : Places = record { numbers = set p.numbers i z } in
    let long' : length p'.numbers ≤ most_places = omega (arith, long, length-set p.numbers i z) in
    let within : i < length p.numbers = omega (arith, long) in
    record {
      there = place_at p' i long' ∙ get_or-set_same p.numbers i z (pos 0) within;
      elsewhere = λ j other. place_at p' j long' ∙ get_or-set_other p.numbers i j z (pos 0) other ∙ sym (place_at p j (omega (arith, long)));
    }

pub read_more : {text : List ℕ} {at w i next after : ℕ} {p p' : Places} (z : ℤ) → ReadPlaces text at w i p next → Shows text next w z → after ≡ next + w
    → Replaced (row_of p) i z (row_of p') → ReadPlaces text at w (i + 1) p' after
read_more {text = text} {at = at} {w = w} {i = i} {p' = p'} z r s is new =
    record {
      shown = λ j below. ⊎_elim
          (λ less. subst (Shows text (at + w * j) w) (sym (new.elsewhere j (λ same. omega arith))) (r.shown j less))
          (λ least.
          let same : i ≡ j = omega arith in
          subst (λ (n : ℕ). Shows text (at + w * n) w (place (row_of p') n)) same (subst (λ (y : ℤ). Shows text (at + w * i) w y) (sym new.there) (subst (λ (n : ℕ). Shows text n w z) r.next_is s)))
          (cases_lt j i);
      narrow = λ j past. new.elsewhere j (λ same. omega arith) ∙ r.narrow j (omega arith);
      next_is = omega (arith, r.next_is, mul-add w i 1, mul-one w);
    }
