-- The shortest decimal of a number, in bytes. Assumes nothing.
use Rattle.std.specs.Prelude.{ℕ, zero, suc, ◌+◌, Bool, true, false, List, [], ◌∷◌, map, ℤ, pos, negsuc}
use Rattle.std.specs.Int.Digits.{digits_of}

abbrev pub minus_byte : ℕ
minus_byte = 45

abbrev pub zero_byte : ℕ
zero_byte = 48

-- the digits of n from the highest down, and none for 0
unfoldable pub digit_bytes : ℕ → List ℕ
digit_bytes n = map (λ d. zero_byte + d) (digits_of 10 n)

-- a natural number: no zero stands before its digits, and 0 is one zero
unfoldable pub numeral : ℕ → List ℕ
numeral zero = zero_byte ∷ []
numeral (suc n) = digit_bytes (suc n)

-- a whole number: a minus right before the digits where it is below 0, so never before a zero
unfoldable pub signed_numeral : ℤ → List ℕ
signed_numeral (pos n) = numeral n
signed_numeral (negsuc n) = minus_byte ∷ numeral (suc n)

-- what stands before the digits: a minus where the number is below 0
abbrev pub sign : Bool → List ℕ
sign true = minus_byte ∷ []
sign false = []
