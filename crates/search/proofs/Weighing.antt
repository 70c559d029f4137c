-- What calls on costs within the limits come to. A premise has the form of what the call ensures. Assumes nothing.
use Rattle.std.proofs.Common.{◌≡◌, ℕ, ◌+◌, ◌*◌, ◌<◌, ◌≤◌, List, length, get_or, sym, ap, ◌∙◌, subst, mul-le-mul, arith}
use Rattle.limits.specs.Numbers.{most_ports, most_hours, most_cost, exact_size}
use Rattle.rows.specs.Rows.{Row, sum, times, negative}
use Rattle.rows.specs.Kinds.{Kind, Laws}
use Rattle.rounds.specs.Sizes.{SmallRate, most_leg_weight}
use Rattle.search.specs.Layer.{row_at}
use Rattle.search.proofs.Places.{row_read}

module _ (k : Kind) (laws : Laws k) where
  -- x, y, z and r are what multiple, multiple, negated and plus gave
  pub weight_is : (a b x y z r : Row) (hours total : ℕ) → k.size a ≤ most_cost → hours ≤ most_hours → SmallRate k b total
      → (k.size a ≤ exact_size → total * k.size a ≤ exact_size → x ≡ times total a)
      → (k.size b ≤ exact_size → hours * k.size b ≤ exact_size → y ≡ times hours b)
      → (k.size y ≤ exact_size → z ≡ negative y)
      → (k.size x + k.size z ≤ exact_size → r ≡ sum x z)
      → (r ≡ sum (times total a) (negative (times hours b))) × (k.size r ≤ most_leg_weight)
  weight_is a b x y z r hours total ha ht s ex ey ez er =
      let m : total * k.size a ≤ most_ports * most_hours * most_cost = mul-le-mul s.few_hours ha in
      let n : hours * k.size b ≤ most_hours * (most_ports * most_cost) = mul-le-mul ht s.small_cost in
      let p : x ≡ times total a = ex (omega arith) (omega arith) in
      let q : y ≡ times hours b = ey (omega (arith, s.small_cost)) (omega arith) in
      let sx : k.size x ≤ total * k.size a = rw p (laws.size_times total a) in
      let sy : k.size y ≤ hours * k.size b = rw q (laws.size_times hours b) in
      let e : z ≡ negative y = ez (omega arith) in
      let sz : k.size z ≡ k.size y = ap k.size e ∙ laws.size_negative y in
      let f : r ≡ sum x z = er (omega arith) in
      let sr : k.size r ≤ k.size x + k.size z = rw f (laws.size_sum x z) in
      (f ∙ (λ i. sum (p i) ((e ∙ ap negative q) i)), omega arith)

  -- a is what the layer has, x the leg's weight w, and o what plus gave
  pub offer_is : {K : Type 0} (row : K → Row) (costs : List K) (i : ℕ) (a x o : K) (w : Row) → i < length costs → a ≡ get_or costs i a
      → k.size (row_at row costs i) ≤ 255 * most_leg_weight → row x ≡ w → k.size (row x) ≤ most_leg_weight
      → (k.size (row a) + k.size (row x) ≤ exact_size → row o ≡ sum (row a) (row x))
      → (row o ≡ sum (row_at row costs i) w) × (k.size (row o) ≤ 256 * most_leg_weight)
  offer_is row costs i a x o w inside is small weighs light adds =
      let first : row_at row costs i ≡ row a = row_read row costs i a inside is in
      let sa : k.size (row a) ≤ 255 * most_leg_weight = subst (λ (y : Row). k.size y ≤ 255 * most_leg_weight) first small in
      let e : row o ≡ sum (row a) (row x) = adds (omega arith) in
      (e ∙ (λ j. sum (sym first j) (weighs j)), omega (arith, ap k.size e, laws.size_sum (row a) (row x)))
