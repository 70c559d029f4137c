-- A row of whole numbers, its places, of which there are at most four: a kind of fewer places leaves the others 0.
-- Zero, sum, negative and multiple are taken place by place. Assumes nothing.
use Rattle.std.specs.Prelude.{◌≡◌, ℕ, zero, suc, ◌≤◌, ℤ, pos, ◌+ℤ◌, ◌*ℤ◌, neg_ℤ}

pub record Row : Type 0 where
  pub first : ℤ
  pub second : ℤ
  pub third : ℤ
  pub fourth : ℤ

-- the row of a kind of one place
abbrev pub one_place : ℤ → Row
one_place x = record { first = x; second = pos 0; third = pos 0; fourth = pos 0 }

-- the row of a kind of two places
abbrev pub two_places : ℤ → ℤ → Row
two_places x y = record { first = x; second = y; third = pos 0; fourth = pos 0 }

unfoldable pub zero_row : Row
zero_row = one_place (pos 0)

unfoldable pub sum : Row → Row → Row
sum a b = record {
  first = a.first +ℤ b.first;
  second = a.second +ℤ b.second;
  third = a.third +ℤ b.third;
  fourth = a.fourth +ℤ b.fourth;
}

unfoldable pub negative : Row → Row
negative a = record { first = neg_ℤ a.first; second = neg_ℤ a.second; third = neg_ℤ a.third; fourth = neg_ℤ a.fourth }

-- n times a row
unfoldable pub times : ℕ → Row → Row
times n a = record {
  first = pos n *ℤ a.first;
  second = pos n *ℤ a.second;
  third = pos n *ℤ a.third;
  fourth = pos n *ℤ a.fourth;
}

-- the place of a number, counted from 0
abbrev pub place : Row → ℕ → ℤ
place a zero = a.first
place a (suc zero) = a.second
place a (suc (suc zero)) = a.third
place a (suc (suc (suc zero))) = a.fourth
place a (suc (suc (suc (suc i)))) = pos 0

-- the row is 0 at and past its first n places
abbrev pub Narrow : ℕ → Row → Type 0
Narrow n a = (i : ℕ) → n ≤ i → place a i ≡ pos 0
