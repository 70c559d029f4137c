-- Multiples of whole numbers by naturals, and their magnitudes. Assumes nothing.
use Rattle.std.proofs.Common.{◌≡◌, ℕ, zero, suc, ◌+◌, ◌*◌, ℤ, pos, negsuc, ◌+ℤ◌, ◌*ℤ◌, neg_ℤ, nat_abs, sym, refl, ap, ◌∙◌, suc-mul, suc-add, zero-add, zero-mul, arith}
use lib.IntN.{suc_ℤ-*ℤ, zero-*ℤ}
use lib.Signed.{lt_z}
use Rattle.std.proofs.lemmas.Int.{ints}

pub int_times_sum : (n : ℕ) (a b : ℤ) → pos n *ℤ (a +ℤ b) ≡ pos n *ℤ a +ℤ pos n *ℤ b
int_times_sum zero a b = omega (arith, ints, zero-*ℤ (a +ℤ b), zero-*ℤ a, zero-*ℤ b)
int_times_sum (suc n) a b =
    omega (arith, ints, suc_ℤ-*ℤ (pos n) (a +ℤ b), suc_ℤ-*ℤ (pos n) a, suc_ℤ-*ℤ (pos n) b, int_times_sum n a b)

pub int_sum_times : (m n : ℕ) (a : ℤ) → pos (m + n) *ℤ a ≡ pos m *ℤ a +ℤ pos n *ℤ a
int_sum_times zero n a = omega (arith, ints, ap (λ (k : ℕ). pos k *ℤ a) (zero-add n), zero-*ℤ a)
int_sum_times (suc m) n a =
    omega (arith, ints, ap (λ (k : ℕ). pos k *ℤ a) (suc-add m n), suc_ℤ-*ℤ (pos (m + n)) a, suc_ℤ-*ℤ (pos m) a, int_sum_times m n a)

pub int_times_times : (m n : ℕ) (a : ℤ) → pos m *ℤ (pos n *ℤ a) ≡ pos (m * n) *ℤ a
int_times_times zero n a = zero-*ℤ (pos n *ℤ a) ∙ sym (zero-*ℤ a) ∙ ap (λ (k : ℕ). pos k *ℤ a) (sym (zero-mul n))
int_times_times (suc m) n a =
    omega (arith, ints, ap (λ (k : ℕ). pos k *ℤ a) (suc-mul m n), int_sum_times (m * n) n a, suc_ℤ-*ℤ (pos m) (pos n *ℤ a), int_times_times m n a)

pub abs_times : (n : ℕ) (z : ℤ) → nat_abs (pos n *ℤ z) ≡ n * nat_abs z
abs_times n (pos k) = refl
abs_times n (negsuc k) = omega (arith, ints)

pub abs_negative : (z : ℤ) → nat_abs (neg_ℤ z) ≡ nat_abs z
abs_negative z = omega (arith, ints)

pub lt_z_shifted : (x y z : ℤ) → lt_z (x +ℤ z) (y +ℤ z) ≡ lt_z x y
lt_z_shifted x y z = grind (arith, ints)
