-- Costs by place: their sums, and that they are equal where their places are. Assumes nothing.
use Rattle.std.proofs.Common.{◌≡◌, ℕ, zero, suc, ◌+◌, ◌^◌, ◌<◌, ◌≤◌, length, get_or, take, ℤ, pos, negsuc, ◌+ℤ◌, nat_abs, refl, sym, ap, ◌∙◌, ⊎_elim, arith, w64, SFits, to_z, of_z}
use Rattle.std.proofs.lemmas.Int.{ints, to_z-of_z}
use Rattle.std.proofs.lemmas.Bool.{cases_lt}
use Rattle.std.proofs.lemmas.List.{get_or_past, get_or_default, get_or-take, same_lists}
use Rattle.limits.specs.Numbers.{most_places}
use Rattle.rows.specs.Rows.{Row, sum, place, Narrow}
use Rattle.rows.proofs.Group.{by_places}
use Rattle.sheets.specs.declared.places.Places.{Places}
use Rattle.sheets.specs.Places.{row_of, largest, SamePlaces}

pub abs_sum : (x y : ℤ) → nat_abs (x +ℤ y) ≤ nat_abs x + nat_abs y
abs_sum x y = omega (arith, ints)

pub fits_64 : (z : ℤ) → nat_abs z < 2 ^ 63 → SFits w64 z
fits_64 (pos n) h = record { sfits = omega arith }
fits_64 (negsuc n) h = record { sfits = omega arith }

-- one place of a sum in 64 bits
pub sum_64 : (x y s : ℤ) → nat_abs x + nat_abs y < 2 ^ 63 → s ≡ to_z w64 (of_z w64 x) +ℤ to_z w64 (of_z w64 y) → to_z w64 (of_z w64 s) ≡ x +ℤ y
sum_64 x y s small e =
    let is : s ≡ x +ℤ y = rw (to_z-of_z w64 x (fits_64 x (omega arith)), to_z-of_z w64 y (fits_64 y (omega arith))) at e in
    ap (λ z. to_z w64 (of_z w64 z)) is ∙ to_z-of_z w64 (x +ℤ y) (fits_64 (x +ℤ y) (omega (arith, abs_sum x y)))

pub largest_sum : (a b : Row) → largest (sum a b) ≤ largest a + largest b
unfolding sum
largest_sum a b =
    omega (arith, abs_sum a.first b.first, abs_sum a.second b.second, abs_sum a.third b.third, abs_sum a.fourth b.fourth)

-- no place is above a bound, so the largest is not
pub largest_within : (r : Row) (most : ℕ) → ((i : ℕ) → nat_abs (place r i) ≤ most) → largest r ≤ most
largest_within r most within = omega (arith, within 0, within 1, within 2, within 3)

pub place_sum : (a b : Row) (i : ℕ) → place (sum a b) i ≡ place a i +ℤ place b i
unfolding sum
place_sum a b zero = refl
place_sum a b (suc zero) = refl
place_sum a b (suc (suc zero)) = refl
place_sum a b (suc (suc (suc zero))) = refl
place_sum a b (suc (suc (suc (suc i)))) = refl

-- a place is the number that stands there
pub place_at : (p : Places) (i : ℕ) → length p.numbers ≤ most_places → place (row_of p) i ≡ get_or p.numbers i (pos 0)
place_at p zero few = refl
place_at p (suc zero) few = refl
place_at p (suc (suc zero)) few = refl
place_at p (suc (suc (suc zero))) few = refl
place_at p (suc (suc (suc (suc i)))) few = sym (get_or_past p.numbers (suc (suc (suc (suc i)))) (pos 0) (omega arith))

-- places are the same numbers where their rows are the same
pub same_numbers : (p q : Places) → length p.numbers ≡ most_places → length q.numbers ≡ most_places → row_of p ≡ row_of q → p.numbers ≡ q.numbers
same_numbers p q four four' same =
    same_lists p.numbers q.numbers (omega arith)
    (λ k d below.
    get_or_default p.numbers k d (pos 0) below ∙ sym (place_at p k (omega arith)) ∙ ap (λ (r : Row). place r k) same ∙ place_at q k (omega arith)
    ∙ get_or_default q.numbers k (pos 0) d (omega arith))

-- the number read at an index of the first n
pub place_read : (p : Places) (n i : ℕ) → SFits w64 (get_or (take n p.numbers) i (pos 0)) → length p.numbers ≤ most_places → i < n
    → to_z w64 (of_z w64 (get_or (take n p.numbers) i (pos 0))) ≡ place (row_of p) i
place_read p n i fit few below = to_z-of_z w64 _ fit ∙ get_or-take n p.numbers i (pos 0) below ∙ sym (place_at p i few)

-- rows that agree in their first n places and have no others are the same
pub rows_same : (n : ℕ) (a b : Row) → SamePlaces n a b → Narrow n a → Narrow n b → a ≡ b
rows_same n a b same narrow_a narrow_b = by_places (at 0) (at 1) (at 2) (at 3)
  where
    at : (i : ℕ) → place a i ≡ place b i
    at i = ⊎_elim (same i) (λ past. narrow_a i past ∙ sym (narrow_b i past)) (cases_lt i n)
