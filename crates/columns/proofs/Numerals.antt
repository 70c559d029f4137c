-- The shortest decimal: its last digit, its length, its bytes, and that it is of one number. Assumes nothing.
use Rattle.std.proofs.Common.{◌≡◌, ℕ, zero, suc, ◌+◌, ◌-◌, ◌*◌, ◌/◌, ◌%◌, ◌^◌, ◌<◌, ◌≤◌, List, [], ◌∷◌, ◌++◌, map, length, get_or, drop, ℤ, pos, negsuc, sym, refl, ap, ◌∙◌, arith}
use native.Mathlib.Nat.{pow-le-pow_right}
use Rattle.std.specs.Int.{IsInRange}
use Rattle.std.specs.Int.Digits.{digits_of}
use Rattle.std.proofs.lemmas.Int.Digits.{digits_of_step, length-digits_of_step, length-digits_of-le, all_below_base_digits_of, first_digits_of, number_lt, number_digits_of, same_from_digits_of}
use Rattle.std.proofs.lemmas.List.{map_push, length-map, length-append, get_or-map}
use Rattle.std.proofs.ByRecursion.{All-get_or}
use Rattle.columns.specs.Numerals.{digit_bytes, numeral, signed_numeral}

pub same_first : {bs cs : List ℕ} → bs ≡ cs → get_or bs 0 0 ≡ get_or cs 0 0
same_first e = ap (λ (bs : List ℕ). get_or bs 0 0) e

-- the last digit of a number
digit_bytes_last : (n : ℕ) → 0 < n → digit_bytes n ≡ digit_bytes (n / 10) ++ ((48 + n % 10) ∷ [])
unfolding digit_bytes
digit_bytes_last n some =
    ap (map (λ d. 48 + d)) (digits_of_step 10 n (omega arith) some) ∙ map_push (λ d. 48 + d) (digits_of 10 (n / 10)) (n % 10)

pub digit_bytes_more : (n d : ℕ) → d < 10 → 0 < n * 10 + d → digit_bytes (n * 10 + d) ≡ digit_bytes n ++ ((48 + d) ∷ [])
digit_bytes_more n d digit some =
    let front : (n * 10 + d) / 10 ≡ n = omega arith in
    let last : (n * 10 + d) % 10 ≡ d = omega arith in
    digit_bytes_last (n * 10 + d) some ∙ rw (front, last)

pub numeral_positive : (n : ℕ) → 0 < n → numeral n ≡ digit_bytes n
unfolding numeral
numeral_positive zero some = absurd (omega arith)
numeral_positive (suc n) some = refl

pub numeral_one : (n : ℕ) → n < 10 → numeral n ≡ (48 + n) ∷ []
unfolding numeral digit_bytes
numeral_one zero small = refl
numeral_one (suc n) small =
    let front : suc n / 10 ≡ 0 = omega arith in
    let last : suc n % 10 ≡ suc n = omega arith in
    digit_bytes_last (suc n) (omega arith) ∙ rw (front, last)

pub numeral_more : (n : ℕ) → 10 ≤ n → numeral n ≡ numeral (n / 10) ++ ((48 + n % 10) ∷ [])
numeral_more n large =
    numeral_positive n (omega arith) ∙ digit_bytes_last n (omega arith) ∙ ap (λ (ds : List ℕ). ds ++ ((48 + n % 10) ∷ [])) (sym (numeral_positive (n / 10) (omega arith)))

-- length
pub length_digit_bytes_le : (k n : ℕ) → n < 10 ^ k → length (digit_bytes n) ≤ k
unfolding digit_bytes
length_digit_bytes_le k n below =
    omega (arith, length-map (digits_of 10 n) (λ d. 48 + d), length-digits_of-le 10 k n (omega arith) below)

pub digit_bytes_below : (n k : ℕ) → length (digit_bytes n) ≤ k → n < 10 ^ k
unfolding digit_bytes
digit_bytes_below n k short =
    let below = number_lt 10 (digits_of 10 n) (all_below_base_digits_of 10 n (omega arith)) in
    let short' : length (digits_of 10 n) ≤ k = omega (arith, length-map (digits_of 10 n) (λ d. 48 + d)) in
    let grows : 10 ^ length (digits_of 10 n) ≤ 10 ^ k = pow-le-pow_right (omega arith) short' in
    omega (arith, below, number_digits_of 10 n (omega arith))

pub length_numeral_le : (k n : ℕ) → 0 < k → n < 10 ^ k → length (numeral n) ≤ k
unfolding numeral
length_numeral_le k zero some below = some
length_numeral_le k (suc n) some below = length_digit_bytes_le k (suc n) below

pub numeral_some : (n : ℕ) → 0 < length (numeral n)
unfolding numeral
numeral_some zero = omega arith
numeral_some (suc n) = omega (arith, ap length (digit_bytes_last (suc n) (omega arith)), length-append (digit_bytes (suc n / 10)) ((48 + suc n % 10) ∷ []))

-- bytes
pub digit_bytes_digit : (n i : ℕ) → i < length (digit_bytes n) → IsInRange 48 57 (get_or (digit_bytes n) i 0)
unfolding digit_bytes
digit_bytes_digit n i within =
    let within' : i < length (digits_of 10 n) = omega (arith, length-map (digits_of 10 n) (λ d. 48 + d)) in
    let digit : get_or (digits_of 10 n) i 0 < 10 = All-get_or (λ d. d < 10) (digits_of 10 n) i 0 within' (all_below_base_digits_of 10 n (omega arith)) in
    rw (get_or-map (λ d. 48 + d) (digits_of 10 n) i 0 0 within') (omega arith, omega arith)

-- no zero stands before the digits of a number above 0
pub digit_bytes_first : (n : ℕ) → 0 < n → get_or (digit_bytes n) 0 0 ≡ 48 → ⊥
unfolding digit_bytes
digit_bytes_first n some e =
    let first = first_digits_of 10 n (omega arith) some in
    let within : 0 < length (digits_of 10 n) = omega (arith, length-digits_of_step 10 n (omega arith) some) in
    omega (arith, get_or-map (λ d. 48 + d) (digits_of 10 n) 0 0 0 within)

pub numeral_digit : (n i : ℕ) → i < length (numeral n) → IsInRange 48 57 (get_or (numeral n) i 0)
unfolding numeral
numeral_digit zero zero within = (omega arith, omega arith)
numeral_digit zero (suc i) within = absurd (omega arith)
numeral_digit (suc n) i within = digit_bytes_digit (suc n) i within

pub numeral_first : (n : ℕ) → IsInRange 48 57 (get_or (numeral n) 0 0)
numeral_first n = numeral_digit n 0 (numeral_some n)

pub numeral_no_zero : (n : ℕ) → get_or (numeral n) 0 0 ≡ 48 → 1 < length (numeral n) → ⊥
unfolding numeral
numeral_no_zero zero leads more = omega arith
numeral_no_zero (suc n) leads more = digit_bytes_first (suc n) (omega arith) leads

pub signed_numeral_some : (z : ℤ) → 0 < length (signed_numeral z)
unfolding signed_numeral
signed_numeral_some (pos n) = numeral_some n
signed_numeral_some (negsuc n) = omega arith

pub signed_numeral_first : (z : ℤ) → get_or (signed_numeral z) 0 0 ≡ 32 → ⊥
unfolding signed_numeral
signed_numeral_first (pos n) e = omega (arith, numeral_first n)
signed_numeral_first (negsuc n) e = omega arith

-- the number of a numeral
digits_again : (ds : List ℕ) → map (λ b. b - 48) (map (λ d. 48 + d) ds) ≡ ds
digits_again [] = refl
digits_again (d ∷ ds) =
    let e : 48 + d - 48 ≡ d = omega arith in
    rw (e, digits_again ds)

digit_bytes_same : (m n : ℕ) → digit_bytes m ≡ digit_bytes n → m ≡ n
unfolding digit_bytes
digit_bytes_same m n e =
    same_from_digits_of 10 m n (omega arith) (sym (digits_again (digits_of 10 m)) ∙ ap (map (λ b. b - 48)) e ∙ digits_again (digits_of 10 n))

pub numeral_same : (m n : ℕ) → numeral m ≡ numeral n → m ≡ n
unfolding numeral
numeral_same zero zero e = refl
numeral_same zero (suc n) e = absurd (digit_bytes_first (suc n) (omega arith) (same_first (sym e)))
numeral_same (suc m) zero e = absurd (digit_bytes_first (suc m) (omega arith) (same_first e))
numeral_same (suc m) (suc n) e = digit_bytes_same (suc m) (suc n) e

pub signed_numeral_same : (y z : ℤ) → signed_numeral y ≡ signed_numeral z → y ≡ z
unfolding signed_numeral
signed_numeral_same (pos m) (pos n) e = ap pos (numeral_same m n e)
signed_numeral_same (pos m) (negsuc n) e = absurd (omega (arith, numeral_first m, same_first e))
signed_numeral_same (negsuc m) (pos n) e = absurd (omega (arith, numeral_first n, same_first e))
signed_numeral_same (negsuc m) (negsuc n) e = ap negsuc (omega (arith, numeral_same (suc m) (suc n) (ap (drop 1) e)))
