-- The shortest decimal read from the left, and the minus before it. Assumes nothing.
use Rattle.std.proofs.Common.{◌≡◌, ℕ, zero, suc, ◌+◌, ◌*◌, ◌^◌, ◌<◌, ◌≤◌, List, [], ◌∷◌, length, get_or, take, drop, ℤ, pos, negsuc, neg_ℤ, sym, ap, ◌∙◌, subst, arith, true, nat_lt, MatchOption}
use Rattle.std.specs.Int.{IsInRange}
use Rattle.std.specs.Bool.{then_some}
use Rattle.std.proofs.lemmas.Bool.Decides.{nat_tests}
use Rattle.std.proofs.lemmas.List.{take_more, length-take-le}
use Rattle.columns.specs.Numerals.{digit_bytes, numeral, signed_numeral}
use Rattle.columns.proofs.Numerals.{same_first, digit_bytes_more, digit_bytes_below, numeral_digit, numeral_first, numeral_positive, numeral_some, numeral_no_zero, digit_bytes_first}

-- digits that do not begin with a zero, up to one more
above_zero : (ds : List ℕ) (i n d : ℕ) → i < length ds → (get_or ds 0 0 ≡ 48 → ⊥) → get_or ds i 0 ≡ 48 + d → take i ds ≡ digit_bytes n → 0 < n * 10 + d
unfolding digit_bytes
above_zero ds i (suc n) d within leads is inv = omega arith
above_zero ds i zero (suc d) within leads is inv = omega arith
above_zero ds i zero zero within leads is inv =
    let none : i ≡ 0 = sym (length-take-le i ds (omega arith)) ∙ ap length inv in
    absurd (leads (ap (λ (k : ℕ). get_or ds k 0) (sym none) ∙ is))

pub read_more : (ds : List ℕ) (i n d : ℕ) → i < length ds → (get_or ds 0 0 ≡ 48 → ⊥) → get_or ds i 0 ≡ 48 + d → d < 10 → take i ds ≡ digit_bytes n → take (i + 1) ds ≡ digit_bytes (n * 10 + d)
read_more ds i n d within leads is digit inv =
    take_more ds i 0 within ∙ rw (inv, is) (sym (digit_bytes_more n d digit (above_zero ds i n d within leads is inv)))

pub read_small : (ds : List ℕ) (i n : ℕ) → i < length ds → length ds ≤ 18 → take i ds ≡ digit_bytes n → n < 10 ^ 17
read_small ds i n within narrow inv =
    digit_bytes_below n 17 (omega (arith, ap length inv, length-take-le i ds (omega arith)))

pub read_digit : (ds : List ℕ) (i n : ℕ) → i < length ds → ds ≡ numeral n → IsInRange 48 57 (get_or ds i 0)
read_digit ds i n within is = let P : List ℕ → Type 0 = λ bs. IsInRange 48 57 (get_or bs i 0) in
    subst P (sym is) (numeral_digit n i (omega (arith, ap length is)))

-- all digits are read: they are the numeral of a number above 0, or there are none
pub read_all : (ds : List ℕ) (n : ℕ) → length ds ≤ 18 → ds ≡ digit_bytes n → MatchOption (then_some (nat_lt 0 n) n) ((m : ℕ) → 0 < m → ds ≡ numeral m → ⊥) (λ m. (0 < m) × (m < 10 ^ 18) × (ds ≡ numeral m))
unfolding digit_bytes
read_all ds zero short all = λ m some is. omega (arith, ap length all, ap length is, numeral_some m)
read_all ds (suc n) short all =
    let some : nat_lt 0 (suc n) ≡ true = grind (arith, nat_tests) in
    rw some (omega arith, digit_bytes_below (suc n) 18 (omega (arith, ap length all)), all ∙ sym (numeral_positive (suc n) (omega arith)))

-- a number past its minus, and without one
pub minus_none : (bs : List ℕ) → get_or bs 0 0 ≡ 45 → ((n : ℕ) → 0 < n → drop 1 bs ≡ numeral n → ⊥) → (z : ℤ) → bs ≡ signed_numeral z → ⊥
unfolding signed_numeral
minus_none bs minus none (pos n) is = omega (arith, numeral_first n, same_first is)
minus_none bs minus none (negsuc n) is = none (suc n) (omega arith) (ap (drop 1) is)

pub minus_some : (bs : List ℕ) (n : ℕ) → 0 < length bs → get_or bs 0 0 ≡ 45 → 0 < n → drop 1 bs ≡ numeral n → bs ≡ signed_numeral (neg_ℤ (pos n))
unfolding signed_numeral
minus_some [] n some minus above is = absurd (omega arith)
minus_some (b ∷ bs) zero some minus above is = absurd (omega arith)
minus_some (b ∷ bs) (suc n) some minus above is = rw (minus, is)

pub plain_none : (bs : List ℕ) → (0 < length bs → get_or bs 0 0 ≡ 45 → ⊥) → (length bs ≡ 1 → get_or bs 0 0 ≡ 48 → ⊥) → ((n : ℕ) → 0 < n → bs ≡ numeral n → ⊥) → (z : ℤ) → bs ≡ signed_numeral z → ⊥
unfolding signed_numeral numeral
plain_none bs plain zero_alone none (pos zero) is = zero_alone (ap length is) (same_first is)
plain_none bs plain zero_alone none (pos (suc n)) is = none (suc n) (omega arith) is
plain_none bs plain zero_alone none (negsuc n) is = plain (omega (arith, ap length is)) (same_first is)

pub plain_some : (bs : List ℕ) (n : ℕ) → bs ≡ numeral n → bs ≡ signed_numeral (pos n)
unfolding signed_numeral
plain_some bs n is = is

pub one_zero : (bs : List ℕ) → length bs ≡ 1 → get_or bs 0 0 ≡ 48 → bs ≡ signed_numeral (pos 0)
unfolding signed_numeral numeral
one_zero [] one is = absurd (omega arith)
one_zero (x ∷ []) one is = ap (λ (y : ℕ). y ∷ []) is
one_zero (x ∷ (y ∷ bs)) one is = absurd (omega arith)

-- no zero stands before other digits, and none after a minus
pub zero_none : (bs : List ℕ) → get_or bs 0 0 ≡ 48 → 1 < length bs → (z : ℤ) → bs ≡ signed_numeral z → ⊥
unfolding signed_numeral
zero_none bs leads more (pos n) is = numeral_no_zero n (sym (same_first is) ∙ leads) (omega (arith, ap length is))
zero_none bs leads more (negsuc n) is = omega (arith, same_first is)

pub minus_zero_none : (bs : List ℕ) → get_or bs 0 0 ≡ 45 → get_or bs 1 0 ≡ 48 → (z : ℤ) → bs ≡ signed_numeral z → ⊥
unfolding signed_numeral numeral
minus_zero_none bs minus leads (pos n) is = omega (arith, numeral_first n, same_first is)
minus_zero_none bs minus leads (negsuc n) is = digit_bytes_first (suc n) (omega arith) (sym (ap (λ (cs : List ℕ). get_or cs 1 0) is) ∙ leads)
