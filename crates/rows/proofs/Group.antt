-- Rows are a commutative group, with their multiples by naturals. Assumes nothing.
use Rattle.std.proofs.Common.{◌≡◌, ℕ, zero, suc, ◌+◌, ◌*◌, sym, ap, ◌∙◌, add-one, arith}
use lib.IntN.{zero-*ℤ}
use Rattle.std.proofs.lemmas.Int.{ints}
use Rattle.rows.specs.Rows.{Row, zero_row, sum, negative, times}
use Rattle.rows.proofs.Integers.{int_times_sum, int_sum_times, int_times_times}

-- two rows are equal where they are so place by place
pub by_places : {a b : Row} → a.first ≡ b.first → a.second ≡ b.second → a.third ≡ b.third → a.fourth ≡ b.fourth → a ≡ b
by_places p q r s = λ i. record { first = p i; second = q i; third = r i; fourth = s i }

pub sum_assoc : (a b c : Row) → sum (sum a b) c ≡ sum a (sum b c)
unfolding sum
sum_assoc a b c = by_places (omega (arith, ints)) (omega (arith, ints)) (omega (arith, ints)) (omega (arith, ints))

pub sum_comm : (a b : Row) → sum a b ≡ sum b a
unfolding sum
sum_comm a b = by_places (omega (arith, ints)) (omega (arith, ints)) (omega (arith, ints)) (omega (arith, ints))

pub sum_zero : (a : Row) → sum a zero_row ≡ a
unfolding sum zero_row
sum_zero a = by_places (omega (arith, ints)) (omega (arith, ints)) (omega (arith, ints)) (omega (arith, ints))

pub sum_negative : (a : Row) → sum a (negative a) ≡ zero_row
unfolding sum negative zero_row
sum_negative a = by_places (omega (arith, ints)) (omega (arith, ints)) (omega (arith, ints)) (omega (arith, ints))

pub times_zero : (a : Row) → times 0 a ≡ zero_row
unfolding times zero_row
times_zero a = by_places (zero-*ℤ a.first) (zero-*ℤ a.second) (zero-*ℤ a.third) (zero-*ℤ a.fourth)

pub times_one : (a : Row) → times 1 a ≡ a
unfolding times
times_one a = by_places (omega (arith, ints)) (omega (arith, ints)) (omega (arith, ints)) (omega (arith, ints))

pub times_sum : (n : ℕ) (a b : Row) → times n (sum a b) ≡ sum (times n a) (times n b)
unfolding sum times
times_sum n a b = by_places (int_times_sum n a.first b.first) (int_times_sum n a.second b.second) (int_times_sum n a.third b.third) (int_times_sum n a.fourth b.fourth)

pub sum_times : (m n : ℕ) (a : Row) → times (m + n) a ≡ sum (times m a) (times n a)
unfolding sum times
sum_times m n a = by_places (int_sum_times m n a.first) (int_sum_times m n a.second) (int_sum_times m n a.third) (int_sum_times m n a.fourth)

pub times_times : (m n : ℕ) (a : Row) → times m (times n a) ≡ times (m * n) a
unfolding times
times_times m n a = by_places (int_times_times m n a.first) (int_times_times m n a.second) (int_times_times m n a.third) (int_times_times m n a.fourth)

pub times_suc : (n : ℕ) (a : Row) → times (suc n) a ≡ sum a (times n a)
times_suc n a = ap (λ (j : ℕ). times j a) (sym (add-one n)) ∙ sum_times n 1 a ∙ sum_comm (times n a) (times 1 a) ∙ ap (λ (b : Row). sum b (times n a)) (times_one a)

pub times_swap : (m n : ℕ) (a : Row) → times m (times n a) ≡ times n (times m a)
times_swap m n a = times_times m n a ∙ ap (λ (j : ℕ). times j a) (omega arith) ∙ sym (times_times n m a)

pub zero_sum : (a : Row) → sum zero_row a ≡ a
zero_sum a = sum_comm zero_row a ∙ sum_zero a

pub negative_sum : (a : Row) → sum (negative a) a ≡ zero_row
negative_sum a = sum_comm (negative a) a ∙ sum_negative a

pub left_comm : (a b c : Row) → sum a (sum b c) ≡ sum b (sum a c)
left_comm a b c = sym (sum_assoc a b c) ∙ ap (λ (x : Row). sum x c) (sum_comm a b) ∙ sum_assoc b a c

pub middle : (a b c d : Row) → sum (sum a b) (sum c d) ≡ sum (sum a c) (sum b d)
middle a b c d = simp (sum_assoc, sum_comm, left_comm)

pub cancel : (a b : Row) → sum (negative a) (sum a b) ≡ b
cancel a b = sym (sum_assoc (negative a) a b) ∙ ap (λ (x : Row). sum x b) (negative_sum a) ∙ zero_sum b

-- what adds with a to zero is its negative
pub negative_unique : (a b : Row) → sum a b ≡ zero_row → b ≡ negative a
negative_unique a b e = sym (cancel a b) ∙ ap (sum (negative a)) e ∙ sum_zero (negative a)

pub negative_zero : negative zero_row ≡ zero_row
negative_zero = sym (negative_unique zero_row zero_row (zero_sum zero_row))

pub negative_of_sum : (a b : Row) → negative (sum a b) ≡ sum (negative a) (negative b)
negative_of_sum a b =
    sym (negative_unique (sum a b) (sum (negative a) (negative b)) (middle a b (negative a) (negative b) ∙ rw (sum_negative, sum_negative) (zero_sum zero_row)))

pub times_zero_row : (n : ℕ) → times n zero_row ≡ zero_row
times_zero_row zero = times_zero zero_row
times_zero_row (suc n) = times_suc n zero_row ∙ zero_sum _ ∙ times_zero_row n
