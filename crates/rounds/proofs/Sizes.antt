-- The sizes of rates and weights under the limits. Assumes nothing.
use Rattle.std.proofs.Common.{◌≡◌, ℕ, ◌*◌, ◌<◌, ◌≤◌, true, List, [], ◌∷◌, length, ap, mul-le-mul_right, mul-le-mul, arith}
use Rattle.limits.specs.Numbers.{most_ports, most_hours, most_cost, exact_size}
use Rattle.rows.specs.Rows.{Row, negative, times}
use Rattle.rows.specs.Kinds.{Kind, Laws}
use Rattle.charts.specs.Meaning.{Meaning, Within}
use Rattle.rounds.specs.Legs.{there, figures_at, reaches}
use Rattle.rounds.specs.Walks.{Walk}
use Rattle.rounds.specs.Rounds.{Round}
use Rattle.rounds.specs.Rates.{sum_of, cost_of, hours_of, leg_weight, weight}
use Rattle.rounds.specs.Layers.{Layer}
use Rattle.rounds.specs.Sizes.{SmallRate, most_leg_weight, most_weight}
use Rattle.rounds.proofs.Legs.{allowed, legs_join_ports}
use Rattle.rounds.proofs.Rounds.{round_short}

module _ (k : Kind) (laws : Laws k) (m : Meaning) where
  -- no leg brings more than most, so so many bring no more than as many times most
  pub sum_size : (w : ℕ → Row) (most : ℕ) → ((n : ℕ) → there m n ≡ true → k.size (w n) ≤ most)
      → (ns : List ℕ) (u v : ℕ) → Walk m u ns v → k.size (sum_of w ns) ≤ length ns * most
  sum_size w most legs [] u v r = omega (arith, laws.size_zero)
  sum_size w most legs (n ∷ ns) u v r = omega (arith, laws.size_sum (w n) (sum_of w ns), legs n r.0, sum_size w most legs ns (reaches m n) v r.2)

  module _ (W : Within k m) where
    pub walk_cost : (ns : List ℕ) (u v : ℕ) → Walk m u ns v → k.size (cost_of m ns) ≤ length ns * most_cost
    walk_cost = sum_size (λ n. (figures_at m n).cost) most_cost (λ n h. (allowed k m W n h).small_cost)

    pub walk_hours : (ns : List ℕ) (u v : ℕ) → Walk m u ns v → hours_of m ns ≤ length ns * most_hours
    walk_hours [] u v r = omega arith
    walk_hours (n ∷ ns) u v r = omega (arith, (allowed k m W n r.0).few_hours, walk_hours ns (reaches m n) v r.2)

    pub round_rate : (ns : List ℕ) → Round m ns → SmallRate k (cost_of m ns) (hours_of m ns)
    round_rate ns r =
        let c = r.closed in
        let few : length ns ≤ most_ports = omega (arith, round_short m ns (legs_join_ports k m W) r, W.few_ports) in
        let x : length ns * most_cost ≤ most_ports * most_cost = mul-le-mul_right most_cost few in
        let y : length ns * most_hours ≤ most_ports * most_hours = mul-le-mul_right most_hours few in
        record { small_cost = omega (arith, walk_cost ns c.port c.port c.back); few_hours = omega (arith, walk_hours ns c.port c.port c.back) }

    module _ (c : Row) (t : ℕ) (s : SmallRate k c t) where
      pub leg_weight_size : (n : ℕ) → there m n ≡ true → k.size (leg_weight m c t n) ≤ most_leg_weight
      leg_weight_size n h =
          let f = figures_at m n in
          let a = allowed k m W n h in
          let x : t * k.size f.cost ≤ most_ports * most_hours * most_cost = mul-le-mul s.few_hours a.small_cost in
          let y : f.hours * k.size c ≤ most_hours * (most_ports * most_cost) = mul-le-mul a.few_hours s.small_cost in
          omega (arith, laws.size_sum (times t f.cost) (negative (times f.hours c)), laws.size_times t f.cost, laws.size_negative (times f.hours c), laws.size_times f.hours c)

      pub walk_weight_size : (ns : List ℕ) (u v : ℕ) → Walk m u ns v → length ns ≤ m.ports → k.size (weight m c t ns) ≤ most_weight
      walk_weight_size ns u v r h =
          let few : length ns ≤ most_ports = omega (arith, W.few_ports) in
          let x : length ns * most_leg_weight ≤ most_ports * most_leg_weight = mul-le-mul_right most_leg_weight few in
          omega (arith, sum_size (leg_weight m c t) most_leg_weight leg_weight_size ns u v r)

      pub layer_size : (i : ℕ) (d : ℕ → Row) → Layer k m (leg_weight m c t) i d → (v : ℕ) → v < m.ports → k.size (d v) ≤ i * most_leg_weight
      layer_size i d l v h =
          let r = l.attained v h in
          let a = r.0 in
          let x : length a.legs * most_leg_weight ≤ i * most_leg_weight = mul-le-mul_right most_leg_weight r.1 in
          omega (arith, sum_size (leg_weight m c t) most_leg_weight leg_weight_size a.legs a.start v a.leads, ap k.size a.weighs)

      pub layer_weight_size : (i : ℕ) (d : ℕ → Row) → Layer k m (leg_weight m c t) i d → i ≤ m.ports → (v : ℕ) → v < m.ports → k.size (d v) ≤ most_weight
      layer_weight_size i d l h v b =
          let few : i ≤ most_ports = omega (arith, W.few_ports) in
          let x : i * most_leg_weight ≤ most_ports * most_leg_weight = mul-le-mul_right most_leg_weight few in
          omega (arith, layer_size i d l v b)

-- the hours of one rate times the cost of another
pub across_size : (k : Kind) (c c' : Row) (t t' : ℕ) → SmallRate k c t → SmallRate k c' t' → t' * k.size c ≤ exact_size
across_size k c c' t t' s s' =
    let x : t' * k.size c ≤ most_ports * most_hours * (most_ports * most_cost) = mul-le-mul s'.few_hours s.small_cost in
    omega arith
