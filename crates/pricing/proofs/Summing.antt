-- One leg more in a sum of costs and hours. Assumes nothing.
use Rattle.std.proofs.Common.{◌≡◌, ℕ, ◌+◌, ◌-◌, ◌*◌, ◌^◌, ◌<◌, ◌≤◌, min, List, [], ◌∷◌, ◌++◌, length, get_or, take, sym, refl, ap, ◌∙◌, mul-le-mul_right, add-one, arith, take-suc}
use Rattle.limits.specs.Numbers.{most_legs, most_hours, most_cost, exact_size}
use Rattle.rows.specs.Rows.{Row, sum}
use Rattle.rows.specs.Kinds.{Kind, Laws}
use Rattle.charts.specs.Meaning.{Meaning, Shown, blank, leg, over, Figures, Within, shown_at}
use Rattle.rounds.specs.Legs.{figures_at, shown_figures}
use Rattle.rounds.specs.Rates.{cost_of, hours_of}
use Rattle.rounds.proofs.Walks.{sum_push, hours_append}
use Rattle.pricing.specs.Totals.{Summed}

module _ (k : Kind) (laws : Laws k) (m : Meaning) (within : Within k m) where
  pub record SmallFigures (f : Figures) : Type 0 where
    pub small_cost : k.size f.cost ≤ most_cost
    pub few_hours : f.hours ≤ most_hours

  -- what is no leg costs and takes nothing
  figures_small : (n : ℕ) → SmallFigures (figures_at m n)
  figures_small n = by_entry (shown_at m n) refl
    where
      by_entry : (s : Shown) → shown_at m n ≡ s → SmallFigures (shown_figures s)
      by_entry blank e = record { small_cost = omega (arith, laws.size_zero); few_hours = omega arith }
      by_entry (leg f) e = let a = within.legs_allowed n f e in record { small_cost = a.small_cost; few_hours = a.few_hours }
      by_entry over e = record { small_cost = omega (arith, laws.size_zero); few_hours = omega arith }

  module _ {K : Type 0} (row : K → Row) (ns : List ℕ) where
    -- the leg read has these figures, and is added
    pub summed_more : (i h : ℕ) (c x c' : K) (t t' : ℕ) → i < length ns → length ns ≤ most_legs → Summed k row m ns i c t
        → row x ≡ (figures_at m (get_or ns i 0)).cost → h ≡ (figures_at m (get_or ns i 0)).hours
        → (k.size (row c) + k.size (row x) ≤ exact_size → row c' ≡ sum (row c) (row x)) → t' ≡ min (t + h) (2 ^ 64 - 1)
        → Summed k row m ns (i + 1) c' t'
    summed_more i h c x c' t t' inside few s costs takes plus add =
        let n = get_or ns i 0 in
        let f = figures_small n in
        let below : i ≤ most_legs = omega arith in
        let bound : i * most_cost ≤ most_legs * most_cost = mul-le-mul_right most_cost below in
        let hours_bound : i * most_hours ≤ most_legs * most_hours = mul-le-mul_right most_hours below in
        let size_x : k.size (row x) ≤ most_cost = omega (arith, ap k.size costs, f.small_cost) in
        let sum_is : row c' ≡ sum (row c) (row x) = plus (omega (arith, s.small)) in
        let one_more : take (i + 1) ns ≡ take i ns ++ (n ∷ []) = ap (λ (j : ℕ). take j ns) (add-one i) ∙ take-suc ns i 0 inside in
        let hours_are : hours_of m (take i ns ++ (n ∷ [])) ≡ hours_of m (take i ns) + ((figures_at m n).hours + 0) = hours_append m (take i ns) (n ∷ []) in
        record {
          totals = record {
            cost = sum_is ∙ (λ j. sum (s.totals.cost j) (costs j)) ∙ sym (ap (cost_of m) one_more ∙ sum_push (λ (a : ℕ). (figures_at m a).cost) (take i ns) n);
            hours = omega (arith, s.totals.hours, s.few, f.few_hours, hours_are, ap (hours_of m) one_more);
          };
          small = omega (arith, ap k.size sum_is, laws.size_sum (row c) (row x), s.small);
          few = omega (arith, s.few, f.few_hours);
        }
