-- A number in a column: its shortest decimal at the right, and blanks before it. Assumes nothing.
use Rattle.std.specs.Prelude.{◌≡◌, ℕ, ◌+◌, ◌-◌, ◌≤◌, cond, List, [], ◌∷◌, ◌++◌, length, take, drop, replicate, ℤ, Option, MatchOption, ◌==◌}
use Rattle.columns.specs.Numerals.{signed_numeral}

abbrev pub blank : ℕ
blank = 32

-- a column is read at most this wide: its number then fits 64 bits
abbrev pub widest : ℕ
widest = 18

-- bytes at the right of w places, with blanks before them
unfoldable pub padded : ℕ → List ℕ → List ℕ
padded w bytes = replicate (w - length bytes) blank ++ bytes

-- the bytes of z in a column of w, where it fits
unfoldable pub column : ℕ → ℤ → List ℕ
column w z = padded w (signed_numeral z)

abbrev pub Fits : ℕ → ℤ → Type 0
Fits w z = length (signed_numeral z) ≤ w

-- the w bytes of a text from a place on are the column of z
pub record Shows (text : List ℕ) (at w : ℕ) (z : ℤ) : Type 0 where
  pub narrow : w ≤ widest
  pub is : take w (drop at text) ≡ column w z

-- what is read of the column at a place: a number that it shows, and the next place; or nothing, where it shows none of these numbers
abbrev pub Reads : {X : Type 0} → (X → ℤ) → List ℕ → ℕ → ℕ → Option (X × ℕ) → Type 0
Reads {X = X} number text at w r =
    MatchOption r ((x : X) → Shows text at w (number x) → ⊥) (λ x. Shows text at w (number x.0) × (x.1 ≡ at + w))

abbrev pub past_blanks : List ℕ → List ℕ
past_blanks [] = []
past_blanks (b ∷ bs) = cond (b == blank) (past_blanks bs) (b ∷ bs)

-- bytes are the numeral of just the number that the column at a place shows
pub record NumeralAt (text : List ℕ) (at w : ℕ) (bytes : List ℕ) : Type 0 where
  pub narrow : length bytes ≤ widest
  pub shown : (z : ℤ) → bytes ≡ signed_numeral z → Shows text at w z
  pub read : (z : ℤ) → Shows text at w z → bytes ≡ signed_numeral z
