-- The bytes before the digits put, and a digit put at the end of a column. Assumes nothing.
use Rattle.std.proofs.Common.{◌≡◌, ℕ, zero, suc, ◌+◌, ◌-◌, ◌/◌, ◌%◌, ◌^◌, ◌<◌, ◌≤◌, Bool, true, false, List, [], ◌∷◌, ◌++◌, length, take, drop, set, replicate, ℤ, pos, negsuc, nat_abs, refl, sym, ap, ◌∙◌, arith, rules, IsTrue}
use borrow.Rule.Slice.PartMut.{put_mid}
use native.Mathlib.Nat.{pow-le-pow_right}
use Rattle.std.specs.Int.{is_negative}
use Rattle.std.proofs.lemmas.List.{append_assoc, append-nil, length-append, length-replicate, length-take-le, length-drop, length-set, drop-set, drop_all}
use Rattle.columns.specs.Numerals.{sign, numeral, signed_numeral}
use Rattle.columns.specs.Columns.{padded, column, Fits}
use Rattle.columns.specs.Put.{put}
use Rattle.columns.proofs.Numerals.{numeral_one, numeral_more, numeral_some}
use Rattle.columns.proofs.Columns.{fits_unsigned, fits_signed, length_column}
use Rattle.columns.proofs.Puts.{put_part}

minus_last : (w : ℕ) → set {A = ℕ} (replicate (suc w) 32) w 45 ≡ replicate w 32 ++ (45 ∷ [])
minus_last zero = refl
minus_last (suc w) = ap (λ (bs : List ℕ). 32 ∷ bs) (minus_last w)

-- a minus at the end of blanks, and blanks alone
pub put_minus : (bs : List ℕ) (w : ℕ) (negative : Bool) → bs ≡ replicate w 32 → negative ≡ true → length (sign negative) ≤ w → set bs (length bs - 1) 45 ≡ padded w (sign negative)
unfolding padded
put_minus bs w false is minus room = absurd cc
put_minus bs zero true is minus room = absurd (omega arith)
put_minus bs (suc w) true is minus room =
    let last : length bs - 1 ≡ w = omega (arith, ap length is, length-replicate {A = ℕ} (suc w) 32) in
    let same : suc w - 1 ≡ w = omega arith in
    rw (last, same, is) (minus_last w)

pub put_no_minus : (bs : List ℕ) (w : ℕ) (negative : Bool) → bs ≡ replicate w 32 → negative ≡ false → bs ≡ padded w (sign negative)
unfolding padded
put_no_minus bs w true is plain = absurd cc
put_no_minus bs w false is plain =
    let all : w - 0 ≡ w = omega arith in
    rw all (is ∙ sym (append-nil (replicate {A = ℕ} w 32)))

-- what stands before a number is shorter than the whole, and so is all but its last digit
pub before_shorter : (s : List ℕ) (n : ℕ) → length s < length (s ++ numeral n)
before_shorter s n = omega (arith, length-append s (numeral n), numeral_some n)

pub front_shorter : (s : List ℕ) (n : ℕ) → 9 < n → length (s ++ numeral (n / 10)) < length (s ++ numeral n)
front_shorter s n large =
    let last : List ℕ = (48 + n % 10) ∷ [] in
    omega (arith, length-append s (numeral n), length-append s (numeral (n / 10)), ap length (numeral_more n (omega arith)), length-append (numeral (n / 10)) last)

-- the bytes before the last one that is put
pub length_front : (column : List ℕ) (b : ℕ) → length (take (length column - 1) (set column (length column - 1) b)) ≡ length column - 1
length_front column b = length-take-le (length column - 1) (set column (length column - 1) b) (omega (arith, length-set column (length column - 1) b))

-- a byte at the end of a column, and the others padded before it
put_last : (column front bs : List ℕ) (b : ℕ) → length bs < length column → front ≡ padded (length (take (length column - 1) (set column (length column - 1) b))) bs → front ++ drop (length column - 1) (set column (length column - 1) b) ≡ padded (length column) (bs ++ (b ∷ []))
unfolding padded
put_last column front bs b room is =
    let blanks : length column - length (bs ++ (b ∷ [])) ≡ length column - 1 - length bs = omega (arith, length-append bs (b ∷ [])) in
    let end : drop (length column - 1) (set column (length column - 1) b) ≡ b ∷ [] =
    drop-set column (length column - 1) b (omega arith) ∙ ap (λ (ds : List ℕ). b ∷ ds) (drop_all (length column - 1 + 1) column (omega arith)) in
    rw (is, length_front column b, end, blanks) (append_assoc (replicate (length column - 1 - length bs) 32) bs (b ∷ []))

-- the last digit after those before it, and the one digit of a number
pub put_last_digit : (column front s : List ℕ) (n : ℕ) → 9 < n → length (s ++ numeral n) ≤ length column → front ≡ padded (length (take (length column - 1) (set column (length column - 1) (48 + n % 10)))) (s ++ numeral (n / 10)) → front ++ drop (length column - 1) (set column (length column - 1) (48 + n % 10)) ≡ padded (length column) (s ++ numeral n)
put_last_digit column front s n large room is =
    let last : List ℕ = (48 + n % 10) ∷ [] in
    let all : (s ++ numeral (n / 10)) ++ last ≡ s ++ numeral n = append_assoc s (numeral (n / 10)) last ∙ ap (λ (ds : List ℕ). s ++ ds) (sym (numeral_more n (omega arith))) in
    put_last column front (s ++ numeral (n / 10)) (48 + n % 10) (omega (arith, front_shorter s n large)) is ∙ ap (padded (length column)) all

pub put_one_digit : (column front s : List ℕ) (n : ℕ) → n ≤ 9 → length (s ++ numeral n) ≤ length column → front ≡ padded (length (take (length column - 1) (set column (length column - 1) (48 + n % 10)))) s → front ++ drop (length column - 1) (set column (length column - 1) (48 + n % 10)) ≡ padded (length column) (s ++ numeral n)
put_one_digit column front s n small room is =
    let digit : n % 10 ≡ n = omega arith in
    let all : s ++ ((48 + n % 10) ∷ []) ≡ s ++ numeral n = rw digit (ap (λ (ds : List ℕ). s ++ ds) (sym (numeral_one n (omega arith)))) in
    put_last column front s (48 + n % 10) (omega (arith, before_shorter s n)) is ∙ ap (padded (length column)) all

pub ruleset last_digit = (before_shorter, front_shorter, length_front, put_last_digit, put_one_digit)

-- a number that is small enough fits, where a byte is kept for the minus of one below 0
pub fits_kept : (w kept : ℕ) (z : ℤ) → (IsTrue (is_negative z) → 0 < kept) → 0 < w → nat_abs z < 10 ^ (w - kept) → Fits w z
fits_kept w kept (pos n) minus some below =
    let less : w - kept ≤ w = omega arith in
    let grows : 10 ^ (w - kept) ≤ 10 ^ w = pow-le-pow_right (omega arith) less in
    fits_unsigned w n some (omega arith)
fits_kept w kept (negsuc n) minus some below =
    let one : 0 < kept = minus (search rules) in
    let less : w - kept ≤ w - 1 = omega arith in
    let grows : 10 ^ (w - kept) ≤ 10 ^ (w - 1) = pow-le-pow_right (omega arith) less in
    fits_signed w (negsuc n) some (omega arith)

-- a numeral by its sign and its size
pub by_sign : (z : ℤ) (negative : Bool) (size : ℕ) → negative ≡ is_negative z → size ≡ nat_abs z → sign negative ++ numeral size ≡ signed_numeral z
unfolding signed_numeral
by_sign (pos n) negative size sign_is size_is =
    let plain : negative ≡ false = grind arith in
    rw (plain, size_is) refl
by_sign (negsuc n) negative size sign_is size_is = rw (sign_is, size_is) refl

-- the column at a place of the buffer, and what is left of the buffer when it is put
pub length_place : (out : List ℕ) (at w : ℕ) → at + w ≤ length out → length (take (at + w - at) (drop at out)) ≡ w
length_place out at w room = omega (arith, length-take-le (at + w - at) (drop at out) (omega (arith, length-drop at out)))

pub put_place : (out bytes : List ℕ) (at w : ℕ) (z : ℤ) → at + w ≤ length out → Fits w z → bytes ≡ padded (length (take (at + w - at) (drop at out))) (signed_numeral z) → put_mid at (at + w - at) out bytes ≡ put out at (column w z)
unfolding column
put_place out bytes at w z room fits is =
    let all : bytes ≡ padded w (signed_numeral z) = is ∙ ap (λ (k : ℕ). padded k (signed_numeral z)) (length_place out at w room) in
    let len : length bytes ≡ at + w - at = omega (arith, ap length all, length_column w z fits) in
    put_part out bytes at (at + w - at) len ∙ ap (put out at) all
