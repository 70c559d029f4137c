-- What trying one entry does to the next layer. Assumes nothing.
use Rattle.std.proofs.Common.{◌≡◌, ℕ, suc, ◌+◌, ◌*◌, ◌<◌, ◌≤◌, Bool, true, false, ◌⊎◌, List, length, get_or, set, sym, refl, ap, ◌∙◌, subst, inl, inr, add-one, arith, length-set}
use Rattle.std.proofs.lemmas.List.{get_or-set_same, get_or-set_other}
use Rattle.limits.specs.Numbers.{exact_size}
use Rattle.rows.specs.Rows.{Row, sum}
use Rattle.rows.specs.Kinds.{Kind, Laws}
use Rattle.rows.proofs.Order.{clash}
use Rattle.costs.specs.declared.rate.Rate.{Rate}
use Rattle.charts.specs.Meaning.{Meaning, Figures, leg, shown_at, Allowed}
use Rattle.rounds.specs.Legs.{is_leg, shown_figures, there, leaves, reaches, figures_at}
use Rattle.rounds.specs.Layers.{Same, Lower, Relaxed}
use Rattle.rounds.specs.Sizes.{most_leg_weight}
use Rattle.rounds.proofs.Legs.{allowed}
use Rattle.rounds.proofs.Sizes.{leg_weight_size}
use Rattle.rounds.proofs.Relaxing.{relaxed_stay, relaxed_take}
use Rattle.search.specs.Layer.{row_at, weights, Ready, Relaxing}
use Rattle.search.specs.Offer.{offered}
use Rattle.search.proofs.Places.{row_read, row_set, row_other}

module _ {K : Type 0} {k : Kind} (laws : Laws k) {row : K → Row} {m : Meaning} {rate : Rate K} (R : Ready k row m rate) where
  abbrev w : ℕ → Row
  w = weights row m rate

  pub leg_allowed : (n : ℕ) {f : Figures} → leg f ≡ shown_at m n → Allowed k m.ports f
  leg_allowed n {f} e = R.within.legs_allowed n f (sym e)

  module _ {costs next : List K} {preds : List ℕ} {n : ℕ} {improved : Bool} (T : Relaxing k row m rate costs next preds n improved) where
    next_size : (v : ℕ) → v < m.ports → k.size (row_at row next v) ≤ 256 * most_leg_weight
    next_size v b = go (T.relaxed.made v b)
      where
        go : Same k m w (row_at row costs) (row_at row next) (λ v. get_or preds v 0) v ⊎ Lower k m w (row_at row costs) (row_at row next) (λ v. get_or preds v 0) v
            → k.size (row_at row next v) ≤ 256 * most_leg_weight
        go (inl o) = omega (arith, ap k.size o.same, T.small v b)
        go (inr o) =
            let u = leaves m o.number in
            omega (
              arith,
              ap k.size o.comes,
              laws.size_sum (row_at row costs u) (w o.number),
              T.small u (allowed k m R.within o.number o.is_there).from_port,
              leg_weight_size k laws m R.within (row rate.cost) rate.hours R.small_rate o.number o.is_there,
            )

    -- o is what the leg offers, b what the next layer has, and r whether o is below b
    module _ (f : Figures) (shown : leg f ≡ shown_at m n) (b o : K) (in_next : b ≡ get_or next f.to b)
        (offers : row o ≡ offered row costs rate f) (light : k.size (row o) ≤ 256 * most_leg_weight)
        (r : Bool) (says : k.size (row o) ≤ exact_size → k.size (row b) ≤ exact_size → r ≡ k.below (row o) (row b)) where
      is_there : there m n ≡ true
      is_there = ap is_leg (sym shown)

      leg_is : figures_at m n ≡ f
      leg_is = ap shown_figures (sym shown)

      ok : Allowed k m.ports f
      ok = leg_allowed n shown

      to_next : f.to < length next
      to_next = omega (arith, ok.to_port, T.next_layer)

      next_is : row_at row next f.to ≡ row b
      next_is = row_read row next f.to b to_next in_next

      b_size : k.size (row b) ≤ 256 * most_leg_weight
      b_size = subst (λ (y : Row). k.size y ≤ 256 * most_leg_weight) next_is (next_size f.to ok.to_port)

      told : r ≡ k.below (row o) (row b)
      told = says (omega (arith, light)) (omega (arith, b_size))

      -- the offer as the chart has it
      as_offered : sum (row_at row costs (leaves m n)) (w n) ≡ row o
      as_offered = ap (offered row costs rate) leg_is ∙ sym offers

      to_is : reaches m n ≡ f.to
      to_is = ap (λ (y : Figures). y.to) leg_is

      compared : k.below (sum (row_at row costs (leaves m n)) (w n)) (row_at row next (reaches m n)) ≡ r
      compared = (λ i. k.below (as_offered i) ((ap (row_at row next) to_is ∙ next_is) i)) ∙ sym told

      pub relax_stays : r ≡ false → Relaxing k row m rate costs next preds (n + 1) improved
      relax_stays h = record {
        one_layer = T.one_layer;
        next_layer = T.next_layer;
        one_row = T.one_row;
        small = T.small;
        relaxed = rw add-one (relaxed_stay k m w laws (row_at row costs) (row_at row next) (λ v. get_or preds v 0) n (compared ∙ h) T.relaxed);
        some = T.some;
        none = T.none;
      }

      taken : r ≡ true → Relaxed k m w (row_at row costs) (row_at row (set next f.to o)) (λ v. get_or (set preds f.to (n + 1)) v 0) (suc n)
      taken h =
          relaxed_take k m w laws (row_at row costs) (row_at row next) (row_at row (set next f.to o)) (λ v. get_or preds v 0) (λ v. get_or (set preds f.to (n + 1)) v 0) n
          is_there
          (rw to_is ok.to_port)
          (compared ∙ h)
          (ap (row_at row (set next f.to o)) to_is ∙ row_set row next f.to o to_next ∙ sym as_offered)
          (λ v q. row_other row next f.to v o (λ s. q (s ∙ sym to_is)))
          (ap (λ v. get_or (set preds f.to (n + 1)) v 0) to_is ∙ get_or-set_same preds f.to (n + 1) 0 (omega (arith, ok.to_port, T.one_row)) ∙ add-one n)
          (λ v q. get_or-set_other preds f.to v (n + 1) 0 (λ s. q (s ∙ sym to_is)))
          T.relaxed

      takes : r ≡ true → Relaxing k row m rate costs (set next f.to o) (set preds f.to (n + 1)) (n + 1) true
      takes h = record {
        one_layer = T.one_layer;
        next_layer = length-set next f.to o ∙ T.next_layer;
        one_row = length-set preds f.to (n + 1) ∙ T.one_row;
        small = T.small;
        relaxed = subst (Relaxed k m w (row_at row costs) (row_at row (set next f.to o)) (λ v. get_or (set preds f.to (n + 1)) v 0)) (sym (add-one n)) (taken h);
        some = λ e. (f.to, ok.to_port, omega (arith, get_or-set_same preds f.to (n + 1) 0 (omega (arith, ok.to_port, T.one_row))));
        none = λ e. clash refl e;
      }

      pub relax_takes : (p : ℕ) → p ≡ n + 1 → r ≡ true → Relaxing k row m rate costs (set next f.to o) (set preds f.to p) (n + 1) true
      relax_takes p e h = subst (λ p. Relaxing k row m rate costs (set next f.to o) (set preds f.to p) (n + 1) true) (sym e) (takes h)
