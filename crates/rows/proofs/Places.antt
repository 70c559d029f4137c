-- Rows of one and of two places: what their sums and multiples are, and that they are 0 past those places. Assumes nothing.
use Rattle.std.proofs.Common.{◌≡◌, ℕ, zero, suc, ℤ, pos, ◌+ℤ◌, ◌*ℤ◌, neg_ℤ, sym, refl, ap, ◌∙◌, arith}
use lib.IntN.{*ℤ-zero}
use Rattle.rows.specs.Rows.{zero_row, sum, negative, times, one_place, two_places, Narrow}
use Rattle.rows.proofs.Group.{by_places}

pub two_zero : two_places (pos 0) (pos 0) ≡ zero_row
unfolding zero_row
two_zero = refl

pub two_sum : (x y z w : ℤ) → two_places (x +ℤ z) (y +ℤ w) ≡ sum (two_places x y) (two_places z w)
unfolding sum
two_sum x y z w = refl

pub two_negative : (x y : ℤ) → two_places (neg_ℤ x) (neg_ℤ y) ≡ negative (two_places x y)
unfolding negative
two_negative x y = refl

pub two_times : (n : ℕ) (x y : ℤ) → two_places (pos n *ℤ x) (pos n *ℤ y) ≡ times n (two_places x y)
unfolding times
two_times n x y = by_places refl refl (sym (*ℤ-zero (pos n))) (sym (*ℤ-zero (pos n)))

pub one_zero : one_place (pos 0) ≡ zero_row
one_zero = two_zero

pub one_sum : (x z : ℤ) → one_place (x +ℤ z) ≡ sum (one_place x) (one_place z)
one_sum x z = two_sum x (pos 0) z (pos 0)

pub one_negative : (x : ℤ) → one_place (neg_ℤ x) ≡ negative (one_place x)
one_negative x = two_negative x (pos 0)

pub one_times : (n : ℕ) (x : ℤ) → one_place (pos n *ℤ x) ≡ times n (one_place x)
one_times n x = ap (two_places (pos n *ℤ x)) (sym (*ℤ-zero (pos n))) ∙ two_times n x (pos 0)

pub two_places_narrow : (x y : ℤ) → Narrow 2 (two_places x y)
two_places_narrow x y zero h = absurd (omega arith)
two_places_narrow x y (suc zero) h = absurd (omega arith)
two_places_narrow x y (suc (suc zero)) h = refl
two_places_narrow x y (suc (suc (suc zero))) h = refl
two_places_narrow x y (suc (suc (suc (suc i)))) h = refl

pub one_place_narrow : (x : ℤ) → Narrow 1 (one_place x)
one_place_narrow x zero h = absurd (omega arith)
one_place_narrow x (suc zero) h = refl
one_place_narrow x (suc (suc i)) h = two_places_narrow x (pos 0) (suc (suc i)) (omega arith)
