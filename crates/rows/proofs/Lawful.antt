-- The kinds at hand keep the laws. Assumes nothing.
use Rattle.std.proofs.Common.{◌*◌, ◌≤◌, max, nat_abs, refl, mul-le-mul_left, arith, lit≤}
use Rattle.std.proofs.lemmas.Int.{ints}
use Rattle.rows.specs.Rows.{zero_row, sum, negative, times}
use Rattle.rows.specs.Kinds.{Laws}
use Rattle.rows.specs.Orders.{by_dollars, by_dollars_then_tonnes}
use Rattle.rows.proofs.Integers.{abs_times, abs_negative, lt_z_shifted}

pub by_dollars_laws : Laws by_dollars
unfolding zero_row sum negative times
by_dollars_laws = record {
  some_place = lit≤ tt;
  few_places = lit≤ tt;
  irreflexive = λ a. grind (arith, ints);
  transitive = λ a b c p q. grind (arith, ints);
  level_transitive = λ a b c p q. (grind (arith, ints), grind (arith, ints));
  shifted = λ a b c. lt_z_shifted a.first b.first c.first;
  size_zero = refl;
  size_negative = λ a. abs_negative a.first;
  size_sum = λ a b. omega (arith, ints);
  size_times = λ n a. omega (arith, abs_times n a.first);
}

pub by_dollars_then_tonnes_laws : Laws by_dollars_then_tonnes
unfolding zero_row sum negative times
by_dollars_then_tonnes_laws = record {
  some_place = lit≤ tt;
  few_places = lit≤ tt;
  irreflexive = λ a. grind (arith, ints);
  transitive = λ a b c p q. grind (arith, ints);
  level_transitive = λ a b c p q. (grind (arith, ints), grind (arith, ints));
  shifted = λ a b c. simp lt_z_shifted;
  size_zero = refl;
  size_negative = λ a. simp abs_negative;
  size_sum = λ a b. omega (arith, ints);
  size_times = λ n a.
      let x : n * nat_abs a.first ≤ n * max (nat_abs a.first) (nat_abs a.second) = mul-le-mul_left n (omega arith) in
      let y : n * nat_abs a.second ≤ n * max (nat_abs a.first) (nat_abs a.second) = mul-le-mul_left n (omega arith) in
      omega (arith, abs_times n a.first, abs_times n a.second);
}
