-- One leg tried after another, with what made each port lower. Assumes nothing.
use Rattle.std.proofs.Common.{◌≡◌, ℕ, suc, ◌<◌, true, false, ◌≢◌, ◌⊎◌, sym, ap, ◌∙◌, subst, inl, inr, arith}
use Rattle.std.proofs.lemmas.Bool.{cases_eq}
use Rattle.rows.specs.Rows.{Row, sum}
use Rattle.rows.specs.Kinds.{Kind, Laws}
use Rattle.rows.proofs.Order.{clash, le_trans, below_le, below_le_below}
use Rattle.charts.specs.Meaning.{Meaning}
use Rattle.rounds.specs.Legs.{there, leaves, reaches, LegsJoinPorts}
use Rattle.rounds.specs.Layers.{Same, Lower, Relaxed}

module _ (k : Kind) (m : Meaning) (w : ℕ → Row) where
  -- only the ports of the chart matter
  pub relaxed_like : LegsJoinPorts m → (d e d' e' : ℕ → Row) (by by' : ℕ → ℕ) (j : ℕ) → ((v : ℕ) → v < m.ports → d' v ≡ d v)
      → ((v : ℕ) → v < m.ports → e' v ≡ e v) → ((v : ℕ) → v < m.ports → by' v ≡ by v) → Relaxed k m w d e by j → Relaxed k m w d' e' by' j
  relaxed_like J d e d' e' by by' j x y z s = record {
    tried = λ n h t. (λ i. k.below (sum (x (leaves m n) (J n t).0 i) (w n)) (y (reaches m n) (J n t).1 i)) ∙ s.tried n h t;
    made = λ v b. go v b (s.made v b);
  }
    where
      go : (v : ℕ) → v < m.ports → Same k m w d e by v ⊎ Lower k m w d e by v → Same k m w d' e' by' v ⊎ Lower k m w d' e' by' v
      go v b (inl o) = inl (record { none = z v b ∙ o.none; same = y v b ∙ o.same ∙ sym (x v b) })
      go v b (inr o) = inr (record {
        number = o.number;
        made_by = z v b ∙ o.made_by;
        is_there = o.is_there;
        to = o.to;
        comes = y v b ∙ o.comes ∙ ap (λ (r : Row). sum r (w o.number)) (sym (x (leaves m o.number) (J o.number o.is_there).0));
        lower = (λ i. k.below (y v b i) (x v b i)) ∙ o.lower;
      })

  module _ (laws : Laws k) (d : ℕ → Row) where
    pub relaxed_start : (e : ℕ → Row) (by : ℕ → ℕ) → ((v : ℕ) → v < m.ports → e v ≡ d v) → ((v : ℕ) → v < m.ports → by v ≡ 0) → Relaxed k m w d e by 0
    relaxed_start e by h z = record { tried = λ n j t. absurd (omega arith); made = λ v b. inl (record { none = z v b; same = h v b }) }

    -- no port gets higher
    pub no_worse : (e : ℕ → Row) (by : ℕ → ℕ) (j v : ℕ) → v < m.ports → Relaxed k m w d e by j → k.below (d v) (e v) ≡ false
    no_worse e by j v b s = go (s.made v b)
      where
        go : Same k m w d e by v ⊎ Lower k m w d e by v → k.below (d v) (e v) ≡ false
        go (inl q) = rw q.same (laws.irreflexive (d v))
        go (inr q) = below_le k laws (e v) (d v) q.lower

    -- number j is that of no leg
    pub relaxed_skip : (e : ℕ → Row) (by : ℕ → ℕ) (j : ℕ) → there m j ≡ false → Relaxed k m w d e by j → Relaxed k m w d e by (suc j)
    relaxed_skip e by j h s = record { tried = λ n i t. go n i t (cases_eq n j); made = s.made }
      where
        go : (n : ℕ) → n < suc j → there m n ≡ true → (n ≡ j) ⊎ (n ≡ j → ⊥) → k.below (sum (d (leaves m n)) (w n)) (e (reaches m n)) ≡ false
        go n i t (inl q) = clash t (rw q h)
        go n i t (inr q) = s.tried n (omega arith) t

    -- leg j does not make its port lower
    pub relaxed_stay : (e : ℕ → Row) (by : ℕ → ℕ) (j : ℕ) → k.below (sum (d (leaves m j)) (w j)) (e (reaches m j)) ≡ false → Relaxed k m w d e by j → Relaxed k m w d e by (suc j)
    relaxed_stay e by j h s = record { tried = λ n i t. go n i t (cases_eq n j); made = s.made }
      where
        go : (n : ℕ) → n < suc j → there m n ≡ true → (n ≡ j) ⊎ (n ≡ j → ⊥) → k.below (sum (d (leaves m n)) (w n)) (e (reaches m n)) ≡ false
        go n i t (inl q) = rw q h
        go n i t (inr q) = s.tried n (omega arith) t

    -- leg j makes its port lower: f is e, and by₂ is by, but at that port
    pub relaxed_take : (e f : ℕ → Row) (by by₂ : ℕ → ℕ) (j : ℕ) → there m j ≡ true → reaches m j < m.ports
        → k.below (sum (d (leaves m j)) (w j)) (e (reaches m j)) ≡ true
        → f (reaches m j) ≡ sum (d (leaves m j)) (w j) → ((v : ℕ) → v ≢ reaches m j → f v ≡ e v)
        → by₂ (reaches m j) ≡ suc j → ((v : ℕ) → v ≢ reaches m j → by₂ v ≡ by v)
        → Relaxed k m w d e by j → Relaxed k m w d f by₂ (suc j)
    relaxed_take e f by by₂ j h r b x y p q s =
        record { tried = λ n a t. go n a t (cases_eq n j); made = λ v a. from v (s.made v a) (cases_eq v (reaches m j)) }
      where
        lower_by : (v : ℕ) → (v ≡ reaches m j) ⊎ (v ≡ reaches m j → ⊥) → k.below (e v) (f v) ≡ false
        lower_by v (inl a) = rw (a, x) (below_le k laws _ _ b)
        lower_by v (inr a) = rw (y v a) (laws.irreflexive _)

        go : (n : ℕ) → n < suc j → there m n ≡ true → (n ≡ j) ⊎ (n ≡ j → ⊥) → k.below (sum (d (leaves m n)) (w n)) (f (reaches m n)) ≡ false
        go n a t (inl z) = rw (z, x) (laws.irreflexive _)
        go n a t (inr z) = le_trans k laws _ _ _ (lower_by (reaches m n) (cases_eq _ _)) (s.tried n (omega arith) t)

        here : k.below (f (reaches m j)) (d (reaches m j)) ≡ true
        here = rw x (below_le_below k laws _ _ _ b (no_worse e by j (reaches m j) r s))

        from : (v : ℕ) → Same k m w d e by v ⊎ Lower k m w d e by v → (v ≡ reaches m j) ⊎ (v ≡ reaches m j → ⊥) → Same k m w d f by₂ v ⊎ Lower k m w d f by₂ v
        from v o (inl z) = inr (record { number = j; made_by = ap by₂ z ∙ p; is_there = h; to = sym z; comes = ap f z ∙ x; lower = subst (λ u. k.below (f u) (d u) ≡ true) (sym z) here })
        from v (inl o) (inr z) = inl (record { none = q v z ∙ o.none; same = y v z ∙ o.same })
        from v (inr o) (inr z) = inr (record {
          number = o.number;
          made_by = q v z ∙ o.made_by;
          is_there = o.is_there;
          to = o.to;
          comes = y v z ∙ o.comes;
          lower = ap (λ (u : Row). k.below u (d v)) (y v z) ∙ o.lower;
        })
