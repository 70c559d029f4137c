-- The legs of a repeat, one after another. Assumes nothing.
use Rattle.std.proofs.Common.{◌≡◌, ℕ, suc, ◌+◌, ◌-◌, ◌*◌, ◌<◌, ◌≤◌, true, List, ◌∷◌, length, drop, set, sym, refl, ap, ◌∙◌, subst, mul-le-mul_right, add-one, arith, length-set}
use Rattle.std.proofs.lemmas.List.{drop-set, drop_all}
use Rattle.limits.specs.Numbers.{most_ports, most_hours, most_cost, exact_size}
use Rattle.rows.specs.Rows.{Row, zero_row, sum}
use Rattle.rows.specs.Kinds.{Kind, Laws}
use Rattle.charts.specs.Meaning.{Meaning, Figures, Allowed}
use Rattle.rounds.specs.Legs.{there, figures_at, leaves}
use Rattle.rounds.specs.Rates.{cost_of, hours_of}
use Rattle.rounds.specs.WalksBack.{port_back, legs_back}
use Rattle.rounds.proofs.Legs.{allowed}
use Rattle.rounds.proofs.Sizes.{walk_cost, walk_hours}
use Rattle.rounds.proofs.WalksBack.{back_zero, back_suc, legs_zero, legs_suc, length_back}
use Rattle.search.specs.declared.back.Repeat.{Repeat}
use Rattle.search.specs.Predecessors.{pred_at}
use Rattle.search.specs.Round.{Traced, Summing, Copying}

module _ {k : Kind} (laws : Laws k) {m : Meaning} {width : ℕ} {table : List ℕ} {r : Repeat} (G : Traced k m width table r) where
  abbrev by : ℕ → ℕ → ℕ
  by = pred_at width table

  -- sums of so many legs are small
  module _ (a : ℕ) (h : a ≤ r.legs) where
    early : a ≤ most_ports
    early = omega (arith, G.few, G.within.few_ports)

    pub cost_small : k.size (cost_of m (legs_back m by a r.layer r.port)) ≤ most_ports * most_cost
    cost_small =
        let x : a * most_cost ≤ most_ports * most_cost = mul-le-mul_right most_cost early in
        let b = walk_cost k laws m G.within (legs_back m by a r.layer r.port) _ r.port (G.leads a h) in
        omega (arith, b, ap (λ n. n * most_cost) (length_back m by a r.layer r.port))

    pub hours_few : hours_of m (legs_back m by a r.layer r.port) ≤ most_ports * most_hours
    hours_few =
        let x : a * most_hours ≤ most_ports * most_hours = mul-le-mul_right most_hours early in
        let b = walk_hours k laws m G.within (legs_back m by a r.layer r.port) _ r.port (G.leads a h) in
        omega (arith, b, ap (λ n. n * most_hours) (length_back m by a r.layer r.port))

  -- the port come to after a legs, in the layer below which r.layer stands a + 1 layers, and what the table has there
  module _ (a p layer : ℕ) (h : layer + 1 + a ≡ r.layer) (few : a < r.legs) (p_is : p ≡ port_back m by a r.layer r.port) where
    its_row : layer ≡ r.layer - suc a
    its_row = omega arith

    pub p_within : layer * width + p < length table
    p_within = subst (λ n. n < length table) (λ i. sym its_row i * width + sym p_is i) (G.stands a few)

    made : 0 < by layer p
    made = subst (λ n. 0 < n) (λ i. by (sym its_row i) (sym p_is i)) (G.made a few)

    -- a number that is read there is one more than a leg's
    pub some_leg : (q : ℕ) → q ≡ by layer p → 0 < q
    some_leg q e = omega (arith, made)

    pub row_of_leg : (q : ℕ) → q ≡ by layer p → by layer p ≡ (q - 1) + 1
    row_of_leg q e = omega (arith, made)

    module _ (n : ℕ) (row : by layer p ≡ n + 1) where
      n_row : n ≡ by (r.layer - suc a) (port_back m by a r.layer r.port) - 1
      n_row =
          let s : by (r.layer - suc a) (port_back m by a r.layer r.port) ≡ n + 1 = (λ i. by (sym its_row i) (sym p_is i)) ∙ row in
          omega arith

      n_there : there m n ≡ true
      n_there = subst (λ u. there m u ≡ true) (sym n_row) (G.is_there a few)

      n_legs : n ∷ legs_back m by a r.layer r.port ≡ legs_back m by (a + 1) r.layer r.port
      n_legs =
          ap (λ u. u ∷ legs_back m by a r.layer r.port) n_row
          ∙ sym (legs_suc m by a r.layer r.port)
          ∙ ap (λ u. legs_back m by u r.layer r.port) (sym (add-one a))

      n_port : leaves m n ≡ port_back m by (a + 1) r.layer r.port
      n_port =
          ap (leaves m) n_row
          ∙ sym (back_suc m by a r.layer r.port)
          ∙ ap (λ u. port_back m by u r.layer r.port) (sym (add-one a))

      module _ (f : Figures) (f_is : f ≡ figures_at m n) where
        pub leg_allowed : Allowed k m.ports f
        leg_allowed = subst (Allowed k m.ports) (sym f_is) (allowed k m G.within n n_there)

        pub hours_fit : {K : Type 0} (row : K → Row) (cost : K) (hours : ℕ) → Summing row m width table r a cost hours p → hours + f.hours ≤ 257 * most_hours
        hours_fit row cost hours S = omega (arith, S.totals.hours, hours_few a (omega arith), leg_allowed.few_hours)

        pub sums : {K : Type 0} (row : K → Row) (cost new : K) (hours b : ℕ) → b ≡ a + 1 → Summing row m width table r a cost hours p
            → (k.size f.cost + k.size (row cost) ≤ exact_size → row new ≡ sum f.cost (row cost)) → Summing row m width table r b new (hours + f.hours) f.from
        sums row cost new hours b b_is S adds =
            let s = leg_allowed in
            let small = cost_small a (omega arith) in
            let new_is : row new ≡ sum f.cost (row cost) = adds (omega (arith, ap k.size S.totals.cost, small, s.small_cost)) in
            subst (λ i. Summing row m width table r i new (hours + f.hours) f.from) (sym b_is) (record {
              totals = record {
                cost = new_is ∙ (λ i. sum (f_is i).cost (S.totals.cost i)) ∙ ap (cost_of m) n_legs;
                hours = omega (arith, S.totals.hours, ap (hours_of m) n_legs, ap (λ (y : Figures). y.hours) f_is);
              };
              at_is = ap (λ (y : Figures). y.from) f_is ∙ n_port;
            })

      pub copies : (out : List ℕ) (q b place : ℕ) → b ≡ a + 1 → place + b ≡ r.legs → q ≡ leaves m n → Copying m width table r a out p → Copying m width table r b (set out place n) q
      copies out q b place b_is place_is left S =
          let i : r.legs - (a + 1) ≡ place = omega arith in
          let j : place + 1 ≡ r.legs - a = omega arith in
          subst (λ u. Copying m width table r u (set out place n) q) (sym b_is) (record {
            long = length-set _ _ _ ∙ S.long;
            done =
                ap (λ u. drop u (set out place n)) i
                ∙ drop-set out place n (omega (arith, S.long))
                ∙ ap (λ u. n ∷ drop u out) j
                ∙ ap (λ (u : List ℕ). n ∷ u) S.done
                ∙ n_legs;
            at_is = left ∙ n_port;
          })

  pub sum_starts : {K : Type 0} (row : K → Row) (cost : K) (a : ℕ) → a ≡ 0 → row cost ≡ zero_row → Summing row m width table r a cost 0 r.port
  unfolding legs_back
  sum_starts row cost a z e = subst (λ i. Summing row m width table r i cost 0 r.port) (sym z) (record { totals = record { cost = e; hours = refl }; at_is = sym (back_zero m by r.layer r.port) })

  pub copy_starts : (out : List ℕ) (a : ℕ) → a ≡ 0 → length out ≡ r.legs → Copying m width table r a out r.port
  copy_starts out a z l = subst (λ i. Copying m width table r i out r.port) (sym z) (record {
    long = l;
    done = drop_all (r.legs - 0) out (omega arith) ∙ sym (legs_zero m by r.layer r.port);
    at_is = sym (back_zero m by r.layer r.port);
  })
