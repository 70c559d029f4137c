-- Bytes written one after the other, and how long they are. Assumes nothing.
use Rattle.std.proofs.Common.{◌≡◌, ℕ, zero, suc, ◌+◌, ◌-◌, ◌*◌, ◌^◌, ◌<◌, ◌≤◌, List, [], ◌++◌, length, take, drop, ℤ, pos, nat_abs, refl, sym, ap, ◌∙◌, mul-zero, mul-suc, add-one, arith}
use Rattle.std.proofs.lemmas.List.{length-append, take-append-drop}
use Rattle.rows.specs.Rows.{Row, place}
use Rattle.columns.specs.Columns.{column}
use Rattle.columns.specs.Put.{put}
use Rattle.columns.proofs.Columns.{fits_unsigned, fits_signed, length_column}
use Rattle.columns.proofs.Puts.{put_after}
use Rattle.sheets.specs.declared.lines.LineWriter.{LineWriter}
use Rattle.sheets.specs.Places.{largest}
use Rattle.sheets.specs.Form.{place_columns}
use Rattle.sheets.specs.Lines.{Puts}

pub place_small : (r : Row) (i : ℕ) → nat_abs (place r i) ≤ largest r
place_small r zero = omega arith
place_small r (suc zero) = omega arith
place_small r (suc (suc zero)) = omega arith
place_small r (suc (suc (suc zero))) = omega arith
place_small r (suc (suc (suc (suc i)))) = omega arith

pub length_unsigned : (w n : ℕ) → 0 < w → n < 10 ^ w → length (column w (pos n)) ≡ w
length_unsigned w n some below = length_column w (pos n) (fits_unsigned w n some below)

pub length_signed : (w : ℕ) (z : ℤ) → 0 < w → nat_abs z < 10 ^ (w - 1) → length (column w z) ≡ w
length_signed w z some below = length_column w z (fits_signed w z some below)

pub length_places : (w n : ℕ) (r : Row) → 0 < w → largest r < 10 ^ (w - 1) → length (place_columns w n r) ≡ w * n
unfolding place_columns
length_places w zero r some s = sym (mul-zero w)
length_places w (suc n) r some s =
    length-append (place_columns w n r) (column w (place r n)) ∙ omega (arith, mul-suc w n, length_places w n r some s, length_signed w (place r n) some (omega (arith, place_small r n)))

put_none : (d : List ℕ) (at : ℕ) → d ≡ put d at []
unfolding put
put_none d at = sym (ap (λ (n : ℕ). take at d ++ drop n d) (omega arith) ∙ take-append-drop at d)

pub puts_none : (w : LineWriter) → Puts w w [] 0
puts_none w = record { same_buffer = refl; same_length = refl; wrote = put_none w.out.now w.at; counted = refl; next = omega arith }

-- bytes put after those that were put already
pub puts_more : {a b d : LineWriter} {s t : List ℕ} {m n : ℕ} → a.at ≤ length a.out.now → Puts a b s m → Puts b d t n → Puts a d (s ++ t) (m + n)
puts_more {a = a} {b = b} {s = s} {t = t} room p q =
    record {
      same_buffer = q.same_buffer ∙ p.same_buffer;
      same_length = q.same_length ∙ p.same_length;
      wrote = q.wrote ∙ ap (λ (xs : List ℕ). put xs b.at t) p.wrote ∙ put_after a.out.now s t a.at b.at (omega (arith, p.next, p.counted)) room;
      counted = omega (arith, length-append s t, p.counted, q.counted);
      next = omega (arith, p.next, q.next);
    }

-- one place more
pub puts_place : {a b d : LineWriter} (w i : ℕ) (r : Row) → a.at ≤ length a.out.now → Puts a b (place_columns w i r) (w * i) → Puts b d (column w (place r i)) w
    → Puts a d (place_columns w (i + 1) r) (w * (i + 1))
unfolding place_columns
puts_place w i r room p q = rw (add-one, mul-suc) (puts_more room p q)
