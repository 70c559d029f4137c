-- Columns: what stands past the blanks, the width, and that a column shows one number. Assumes nothing.
use Rattle.std.proofs.Common.{◌≡◌, ℕ, zero, suc, ◌+◌, ◌-◌, ◌^◌, ◌<◌, ◌≤◌, min, eqb, List, [], ◌∷◌, ◌++◌, length, get_or, take, drop, replicate, ℤ, pos, negsuc, nat_abs, sym, refl, ap, ◌∙◌, arith}
use native.Mathlib.Nat.{pow-le-pow_right}
use Rattle.std.proofs.lemmas.List.{length-append, length-replicate, length-take, length-drop, length-take-le, take-append-drop, drop-drop, take_rest, take_at, drop_at}
use Rattle.std.proofs.lemmas.Bool.{cond-true, cond-false, cond_both, eqb-true, eq-eqb, ne_eqb}
use Rattle.columns.specs.Numerals.{numeral, signed_numeral}
use Rattle.columns.specs.Columns.{widest, padded, column, Fits, Shows, NumeralAt, past_blanks}
use Rattle.columns.specs.Put.{put}
use Rattle.columns.proofs.Numerals.{length_digit_bytes_le, length_numeral_le, signed_numeral_some, signed_numeral_first, signed_numeral_same}

-- what stands past the blanks: a blank less, none, any number
pub past_one : (bs : List ℕ) → 0 < length bs → get_or bs 0 0 ≡ 32 → past_blanks (take (length bs - 1) (drop 1 bs)) ≡ past_blanks bs
past_one [] some is = absurd (omega arith)
past_one (b ∷ bs) some is = ap past_blanks (take_rest (b ∷ bs) 1) ∙ sym (cond-true (eqb b 32) (past_blanks bs) (b ∷ bs) (eq-eqb b 32 is))

pub past_none : (bs : List ℕ) → (0 < length bs → get_or bs 0 0 ≡ 32 → ⊥) → past_blanks bs ≡ bs
past_none [] starts = refl
past_none (b ∷ bs) starts = cond-false (eqb b 32) (past_blanks bs) (b ∷ bs) (ne_eqb b 32 (starts (omega arith)))

past_replicate : (k : ℕ) (bs : List ℕ) → (get_or bs 0 0 ≡ 32 → ⊥) → past_blanks (replicate k 32 ++ bs) ≡ bs
past_replicate zero bs starts = past_none bs (λ _. starts)
past_replicate (suc k) bs starts = past_replicate k bs starts

past_short : (bs : List ℕ) → length (past_blanks bs) ≤ length bs
past_short [] = omega arith
past_short (b ∷ bs) =
    cond_both (eqb b 32) (past_blanks bs) (b ∷ bs) (λ rest. length rest ≤ suc (length bs)) (λ _. omega (arith, past_short bs)) (λ _. omega arith)

-- bytes are those past their blanks, padded
past_padded : (bs : List ℕ) → padded (length bs) (past_blanks bs) ≡ bs
unfolding padded
past_padded [] = refl
past_padded (b ∷ bs) =
    let more : suc (length bs) - length (past_blanks bs) ≡ suc (length bs - length (past_blanks bs)) = omega (arith, past_short bs) in
    let none : suc (length bs) - suc (length bs) ≡ 0 = omega arith in
    cond_both (eqb b 32) (past_blanks bs) (b ∷ bs) (λ rest. padded (suc (length bs)) rest ≡ b ∷ bs)
    (λ t. rw (more, eqb-true b 32 t) (ap (λ (rest : List ℕ). 32 ∷ rest) (past_padded bs)))
    (λ _. rw none)

pub column_past : (w : ℕ) (z : ℤ) → past_blanks (column w z) ≡ signed_numeral z
unfolding column padded
column_past w z = past_replicate (w - length (signed_numeral z)) (signed_numeral z) (signed_numeral_first z)

pub past_column : (bs : List ℕ) (z : ℤ) → past_blanks bs ≡ signed_numeral z → bs ≡ column (length bs) z
unfolding column
past_column bs z e = sym (past_padded bs) ∙ ap (padded (length bs)) e

-- a column shows one number
pub column_same : (w : ℕ) (y z : ℤ) → column w y ≡ column w z → y ≡ z
column_same w y z e = signed_numeral_same y z (sym (column_past w y) ∙ ap past_blanks e ∙ column_past w z)

-- a number below a power of ten fits, with a byte kept for the minus where it may be below 0
pub fits_unsigned : (w n : ℕ) → 0 < w → n < 10 ^ w → Fits w (pos n)
unfolding signed_numeral
fits_unsigned w n some below = length_numeral_le w n some below

pub fits_signed : (w : ℕ) (z : ℤ) → 0 < w → nat_abs z < 10 ^ (w - 1) → Fits w z
unfolding signed_numeral numeral
fits_signed w (pos n) some below =
    let less : w - 1 ≤ w = omega arith in
    let grows : 10 ^ (w - 1) ≤ 10 ^ w = pow-le-pow_right (omega arith) less in
    fits_unsigned w n some (omega arith)
fits_signed w (negsuc n) some below = omega (arith, length_digit_bytes_le (w - 1) (suc n) below)

length_padded : (w : ℕ) (bs : List ℕ) → length (padded w bs) ≡ (w - length bs) + length bs
unfolding padded
length_padded w bs = length-append (replicate (w - length bs) 32) bs ∙ ap (λ (k : ℕ). k + length bs) (length-replicate (w - length bs) 32)

pub length_column : (w : ℕ) (z : ℤ) → Fits w z → length (column w z) ≡ w
unfolding column
length_column w z fits = omega (arith, length_padded w (signed_numeral z))

-- what a text shows at a place fits the column, lies within the text, and is one number
shows_room : {text : List ℕ} {at w : ℕ} {z : ℤ} → Shows text at w z → Fits w z × (at + w ≤ length text)
unfolding column
shows_room {text = text} {at = at} {w = w} {z = z} s =
    let taken : length (take w (drop at text)) ≡ (w - length (signed_numeral z)) + length (signed_numeral z) = ap length s.is ∙ length_padded w (signed_numeral z) in
    let cut : length (take w (drop at text)) ≡ min w (length text - at) = length-take w (drop at text) ∙ ap (min w) (length-drop at text) in
    let some = signed_numeral_some z in
    (grind (arith, taken, cut, some), grind (arith, taken, cut, some))

pub shows_fits : {text : List ℕ} {at w : ℕ} {z : ℤ} → Shows text at w z → Fits w z
shows_fits s = (shows_room s).0

pub shows_within : {text : List ℕ} {at w : ℕ} {z : ℤ} → Shows text at w z → at + w ≤ length text
shows_within s = (shows_room s).1

pub shows_same : {text : List ℕ} {at w : ℕ} {y z : ℤ} → Shows text at w y → Shows text at w z → y ≡ z
shows_same {w = w} {y = y} {z = z} s t = column_same w y z (sym s.is ∙ t.is)

-- a text from such a place on
pub shows_then : {text : List ℕ} {at w : ℕ} {z : ℤ} → Shows text at w z → drop at text ≡ column w z ++ drop (at + w) text
shows_then {text = text} {at = at} {w = w} s = sym (take-append-drop w (drop at text)) ∙ rw (s.is, drop-drop w at text)

pub numeral_found : (text bytes : List ℕ) (at w : ℕ) → w ≤ widest → at + w ≤ length text → bytes ≡ past_blanks (take w (drop at text)) → NumeralAt text at w bytes
numeral_found text bytes at w narrow within e =
    let len : length (take w (drop at text)) ≡ w = length-take-le w (drop at text) (omega (arith, length-drop at text)) in
    record {
      narrow = omega (arith, ap length e, past_short (take w (drop at text)));
      shown = λ z is. record { narrow = narrow; is = past_column (take w (drop at text)) z (sym e ∙ is) ∙ ap (λ (k : ℕ). column k z) len };
      read = λ z s. e ∙ ap past_blanks s.is ∙ column_past w z;
    }

-- a text that has a column from a place on shows its number there
pub then_shows : (text rest : List ℕ) (at w : ℕ) (z : ℤ) → w ≤ widest → Fits w z → drop at text ≡ column w z ++ rest → Shows text at w z
then_shows text rest at w z narrow fits e =
    record { narrow = narrow; is = ap (take w) e ∙ take_at (column w z) rest w (length_column w z fits) }

pub then_rest : (text rest : List ℕ) (at w : ℕ) (z : ℤ) → Fits w z → drop at text ≡ column w z ++ rest → drop (at + w) text ≡ rest
then_rest text rest at w z fits e =
    sym (drop-drop w at text) ∙ ap (drop w) e ∙ drop_at (column w z) rest w (length_column w z fits)

-- what is put is shown
pub put_shows : (out : List ℕ) (at w : ℕ) (z : ℤ) → w ≤ widest → at + w ≤ length out → Fits w z → Shows (put out at (column w z)) at w z
unfolding put
put_shows out at w z narrow within fits =
    then_shows (put out at (column w z)) (drop (at + length (column w z)) out) at w z narrow fits
    (drop_at (take at out) _ at (length-take-le at out (omega arith)))
