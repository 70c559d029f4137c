-- Walks back along the legs that made ports lower. Assumes nothing.
use Rattle.std.proofs.Common.{◌≡◌, ℕ, zero, suc, ◌+◌, ◌-◌, ◌<◌, ◌≤◌, true, ◌⊎◌, List, [], ◌∷◌, ◌++◌, length, sym, refl, ap, ◌∙◌, subst, inl, inr, add-suc, arith}
use Rattle.rows.specs.Rows.{Row, zero_row, sum}
use Rattle.rows.specs.Kinds.{Kind, Laws}
use Rattle.rows.proofs.Order.{clash}
use Rattle.charts.specs.Meaning.{Meaning}
use Rattle.rounds.specs.Legs.{there, leaves, reaches, LegsJoinPorts}
use Rattle.rounds.specs.Walks.{Walk, ClosedWalk}
use Rattle.rounds.specs.Rates.{sum_of}
use Rattle.rounds.specs.Layers.{Same, Lower, Layers}
use Rattle.rounds.specs.WalksBack.{port_back, legs_back, LoweredIn}
use Rattle.rounds.proofs.Legs.{listed}
use Rattle.rounds.proofs.Lowering.{Lowering, lowering_walk, part_light}

module _ (m : Meaning) (by : ℕ → ℕ → ℕ) where
  pub back_zero : (j x : ℕ) → port_back m by 0 j x ≡ x
  unfolding port_back
  back_zero j x = refl

  pub back_suc : (c j x : ℕ) → port_back m by (suc c) j x ≡ leaves m (by (j - suc c) (port_back m by c j x) - 1)
  unfolding port_back
  back_suc c j x = refl

  -- a walk back goes on from where it has come to
  pub back_on : (a c j x : ℕ) → port_back m by (a + c) j x ≡ port_back m by c (j - a) (port_back m by a j x)
  unfolding port_back
  back_on a zero j x = ap (λ n. port_back m by n j x) (omega arith)
  back_on a (suc c) j x =
      let q : j - suc (a + c) ≡ j - a - suc c = omega arith in
      ap (λ n. port_back m by n j x) (add-suc a c) ∙ (λ i. leaves m (by (q i) (back_on a c j x i) - 1))

  pub legs_zero : (j x : ℕ) → legs_back m by 0 j x ≡ []
  unfolding legs_back
  legs_zero j x = refl

  pub legs_suc : (c j x : ℕ) → legs_back m by (suc c) j x ≡ (by (j - suc c) (port_back m by c j x) - 1) ∷ legs_back m by c j x
  unfolding legs_back
  legs_suc c j x = refl

  pub length_back : (c j x : ℕ) → length (legs_back m by c j x) ≡ c
  unfolding legs_back
  length_back zero j x = refl
  length_back (suc c) j x = omega (arith, length_back c j x)

module _ (k : Kind) (laws : Laws k) (m : Meaning) (J : LegsJoinPorts m) (w : ℕ → Row) (by : ℕ → ℕ → ℕ) (top : ℕ) (S : Layers k m w by top) where
  -- what is lower than in the layer before was made so by a leg
  pub lowered_in : (j v : ℕ) → j < top → v < m.ports → k.below (S.row (suc j) v) (S.row j v) ≡ true → LoweredIn m by (suc j) v
  lowered_in j v h b l = (b, omega arith, subst (λ i. 0 < by i v) (omega arith) (go ((S.steps j h).made v b)))
    where
      go : Same k m w (S.row j) (S.row (suc j)) (by j) v ⊎ Lower k m w (S.row j) (S.row (suc j)) (by j) v → 0 < by j v
      go (inl o) = clash l (ap (λ (x : Row). k.below x (S.row j v)) o.same ∙ laws.irreflexive (S.row j v))
      go (inr o) = omega (arith, o.made_by)

  -- the port before one that was made lower was so in the layer before
  lower_before : (i n : ℕ) → suc i < top → there m n ≡ true → S.row (suc (suc i)) (reaches m n) ≡ sum (S.row (suc i) (leaves m n)) (w n)
      → k.below (S.row (suc (suc i)) (reaches m n)) (S.row (suc i) (reaches m n)) ≡ true → 0 < by i (leaves m n)
  lower_before i n h t e b = go ((S.steps i (omega arith)).made (leaves m n) (J n t).0)
    where
      go : Same k m w (S.row i) (S.row (suc i)) (by i) (leaves m n) ⊎ Lower k m w (S.row i) (S.row (suc i)) (by i) (leaves m n) → 0 < by i (leaves m n)
      go (inr o) = omega (arith, o.made_by)
      go (inl o) =
          let x : S.row (suc (suc i)) (reaches m n) ≡ sum (S.row i (leaves m n)) (w n) = e ∙ ap (λ (y : Row). sum y (w n)) o.same in
          clash (subst (λ (y : Row). k.below y (S.row (suc i) (reaches m n)) ≡ true) x b) ((S.steps i (omega arith)).tried n (listed m n t) t)

  -- c legs back from port x in layer j, to a port made lower unless it is in the first layer
  pub record Back (c j x : ℕ) : Type 0 where
    pub lowering : Lowering k m w S.row (j - c) j (port_back m by c j x) (legs_back m by c j x) x
    pub port : port_back m by c j x < m.ports
    pub made : c < j → 0 < by (j - suc c) (port_back m by c j x)

  pub back : (c j x : ℕ) → c ≤ j → j ≤ top → LoweredIn m by j x → Back c j x
  unfolding port_back legs_back
  back zero j x h l p = record { lowering = (omega arith, refl); port = p.0; made = λ q. p.2 }
  back (suc c) j x h l p = more (back c j x (omega arith) l p)
    where
      more : Back c j x → Back (suc c) j x
      more r = go ((S.steps (j - suc c) (omega arith)).made (port_back m by c j x) r.port)
        where
          go : Same k m w (S.row (j - suc c)) (S.row (suc (j - suc c))) (by (j - suc c)) (port_back m by c j x)
              ⊎ Lower k m w (S.row (j - suc c)) (S.row (suc (j - suc c))) (by (j - suc c)) (port_back m by c j x) → Back (suc c) j x
          go (inl o) = absurd (omega (arith, o.none, r.made (omega arith)))
          go (inr o) =
              let i = j - suc c in
              let y = port_back m by c j x in
              let n = o.number in
              let L : ℕ → ℕ → ℕ → List ℕ → ℕ → Type 0 = Lowering k m w S.row in
              let same : by i y - 1 ≡ n = omega (arith, o.made_by) in
              let e : S.row (suc i) (reaches m n) ≡ sum (S.row i (leaves m n)) (w n) = ap (S.row (suc i)) o.to ∙ o.comes in
              let b : k.below (S.row (suc i) (reaches m n)) (S.row i (reaches m n)) ≡ true = subst (λ u. k.below (S.row (suc i) u) (S.row i u) ≡ true) (sym o.to) o.lower in
              let up : j - c ≡ suc i = omega arith in
              let t₁ : L (suc i) j y (legs_back m by c j x) x = subst (λ u. L u j y (legs_back m by c j x) x) up r.lowering in
              let t₂ : L (suc i) j (reaches m n) (legs_back m by c j x) x = subst (λ u. L (suc i) j u (legs_back m by c j x) x) (sym o.to) t₁ in
              let t₃ : L i j (leaves m n) (n ∷ legs_back m by c j x) x = (o.is_there, refl, e, b, t₂) in
              record {
                lowering = subst (λ a. L i j (leaves m a) (a ∷ legs_back m by c j x) x) (sym same) t₃;
                port = subst (λ a. leaves m a < m.ports) (sym same) (J n o.is_there).0;
                made = λ q.
                    let i₁ = j - suc (suc c) in
                    let u : i ≡ suc i₁ = omega arith in
                    let z : 0 < by i₁ (leaves m n)
                    = lower_before i₁ n (omega arith) o.is_there (subst (λ a. S.row (suc a) (reaches m n) ≡ sum (S.row a (leaves m n)) (w n)) u e)
                    (subst (λ a. k.below (S.row (suc a) (reaches m n)) (S.row a (reaches m n)) ≡ true) u b) in
                    subst (λ a. 0 < by i₁ (leaves m a)) (sym same) z;
              }

  pub back_walk : (c j x : ℕ) → c ≤ j → j ≤ top → LoweredIn m by j x → Walk m (port_back m by c j x) (legs_back m by c j x) x
  back_walk c j x h l p = lowering_walk k m w S.row (legs_back m by c j x) (j - c) j (port_back m by c j x) x (back c j x h l p).lowering

  -- a closed part of a walk back weighs less than zero
  pub back_light : (c j x : ℕ) → c ≤ j → j ≤ top → LoweredIn m by j x
      → (xs ys zs : List ℕ) → legs_back m by c j x ≡ xs ++ (ys ++ zs) → ClosedWalk m ys → k.below (sum_of w ys) zero_row ≡ true
  back_light c j x h l p xs ys zs e o =
      part_light k laws m J w by top S xs ys zs (j - c) j (port_back m by c j x) x
      (subst (λ (ns : List ℕ). Lowering k m w S.row (j - c) j (port_back m by c j x) ns x) e (back c j x h l p).lowering) l o
