-- A wrapped product is the product itself where its magnitude stays within 2 to the 62nd. Assumes nothing.
use Rattle.std.proofs.Common.{◌≡◌, ℕ, zero, suc, ◌*◌, ◌%◌, ◌^◌, ◌<◌, ◌≤◌, ℤ, pos, negsuc, ◌*ℤ◌, nat_abs, sym, ap, ◌∙◌, mul-suc, arith, w64, SFits, to_z, of_z}
use lib.IntN.{*ℤ-zero}
use Rattle.std.specs.Int.{int_wrap}
use Rattle.std.proofs.lemmas.Int.{ints, to_z_pos, of_z-to_z, int_wrap_fits, wrapping_mul_onto}
use Rattle.limits.specs.Numbers.{exact_size}
use Rattle.rows.proofs.Integers.{abs_times}

-- a factor beside which a product other than zero stays within 2 to the 62nd does so itself
small_factor : (n : ℕ) (z : ℤ) → 1 ≤ nat_abs z → n * nat_abs z ≤ exact_size → to_z w64 n ≡ pos n
small_factor n (pos zero) some h = absurd (omega arith)
small_factor n (pos (suc k)) some h = to_z_pos w64 n (omega (arith, mul-suc n k))
small_factor n (negsuc k) some h = to_z_pos w64 n (omega (arith, mul-suc n k))

small_fits : (z : ℤ) → nat_abs z ≤ exact_size → SFits w64 z
small_fits (pos n) h = record { sfits = omega (arith, ints) }
small_fits (negsuc n) h = record { sfits = omega (arith, ints) }

wrapped_product : (n : ℕ) (z : ℤ) → n * nat_abs z ≤ exact_size → int_wrap w64 (pos n *ℤ z) ≡ pos n *ℤ z
wrapped_product n z h = int_wrap_fits w64 (pos n *ℤ z) (small_fits (pos n *ℤ z) (omega (arith, abs_times n z)))

product : (n : ℕ) (z : ℤ) → n * nat_abs z ≤ exact_size → int_wrap w64 (to_z w64 n *ℤ z) ≡ pos n *ℤ z
product n (pos zero) h = ap (int_wrap w64) (*ℤ-zero (to_z w64 n) ∙ sym (*ℤ-zero (pos n))) ∙ wrapped_product n (pos zero) h
product n (pos (suc k)) h = ap (λ (m : ℤ). int_wrap w64 (m *ℤ pos (suc k))) (small_factor n (pos (suc k)) (omega arith) h) ∙ wrapped_product n (pos (suc k)) h
product n (negsuc k) h = ap (λ (m : ℤ). int_wrap w64 (m *ℤ negsuc k)) (small_factor n (negsuc k) (omega arith) h) ∙ wrapped_product n (negsuc k) h

-- the product of a number of 64 bits, read as signed, and a place
pub bits_product : (n : ℕ) (z r : ℤ) → n < 2 ^ 64 → SFits w64 z → r ≡ to_z w64 n → n * nat_abs z ≤ exact_size
    → to_z w64 ((of_z w64 r * of_z w64 z) % 2 ^ 64) ≡ pos n *ℤ z
bits_product n z r f g e h =
    ap (λ (m : ℕ). to_z w64 ((m * of_z w64 z) % 2 ^ 64)) (ap (of_z w64) e ∙ of_z-to_z w64 n f) ∙ wrapping_mul_onto w64 n z f g ∙ product n z h
