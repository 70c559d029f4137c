-- Walks up through layers on which each leg makes its port lower: a closed one weighs less than zero. Assumes nothing.
use Rattle.std.proofs.Common.{◌≡◌, ℕ, suc, ◌<◌, ◌≤◌, true, List, [], ◌∷◌, ◌++◌, sym, refl, ap, ◌∙◌, subst, subst₂, arith}
use Rattle.rows.specs.Rows.{Row, zero_row, sum}
use Rattle.rows.specs.Kinds.{Kind, Laws}
use Rattle.rows.proofs.Group.{sum_assoc, sum_zero}
use Rattle.rows.proofs.Order.{below_le_below}
use Rattle.rows.proofs.Multiples.{shifted_left}
use Rattle.charts.specs.Meaning.{Meaning}
use Rattle.rounds.specs.Legs.{there, leaves, reaches, LegsJoinPorts}
use Rattle.rounds.specs.Walks.{Walk, ClosedWalk}
use Rattle.rounds.specs.Rates.{sum_of}
use Rattle.rounds.specs.Layers.{Layers}
use Rattle.rounds.proofs.Walks.{same_ends}
use Rattle.rounds.proofs.Layers.{layers_fall}

module _ (k : Kind) (m : Meaning) (w : ℕ → Row) (d : ℕ → ℕ → Row) where
  -- legs from port x in layer i to port v in layer j, each making its port lower than the layer before had it
  abbrev pub Lowering : ℕ → ℕ → ℕ → List ℕ → ℕ → Type 0
  Lowering i j x [] v = (i ≡ j) × (x ≡ v)
  Lowering i j x (n ∷ ns) v =
      (there m n ≡ true) × (leaves m n ≡ x) × (d (suc i) (reaches m n) ≡ sum (d i x) (w n))
      × (k.below (d (suc i) (reaches m n)) (d i (reaches m n)) ≡ true) × Lowering (suc i) j (reaches m n) ns v

  pub lowering_walk : (ns : List ℕ) (i j x v : ℕ) → Lowering i j x ns v → Walk m x ns v
  lowering_walk [] i j x v t = t.1
  lowering_walk (n ∷ ns) i j x v t = (t.0, t.1, lowering_walk ns (suc i) j (reaches m n) v t.4)

  lowering_split : (xs ys : List ℕ) (i j x v : ℕ) → Lowering i j x (xs ++ ys) v → (o y : ℕ) × Lowering i o x xs y × Lowering o j y ys v
  lowering_split [] ys i j x v t = (i, x, (refl, refl), t)
  lowering_split (n ∷ xs) ys i j x v t =
      let r = lowering_split xs ys (suc i) j (reaches m n) v t.4 in
      (r.0, r.1, (t.0, t.1, t.2, t.3, r.2), r.3)

  lowering_up : (ns : List ℕ) (i j x v : ℕ) → Lowering i j x ns v → i ≤ j
  lowering_up [] i j x v t = omega (arith, t.0)
  lowering_up (n ∷ ns) i j x v t = omega (arith, lowering_up ns (suc i) j (reaches m n) v t.4)

  lowering_sum : (ns : List ℕ) (i j x v : ℕ) → Lowering i j x ns v → d j v ≡ sum (d i x) (sum_of w ns)
  lowering_sum [] i j x v t = sym (sum_zero _ ∙ ap (λ o. d o x) t.0 ∙ ap (d j) t.1)
  lowering_sum (n ∷ ns) i j x v t = lowering_sum ns (suc i) j (reaches m n) v t.4 ∙ ap (λ (y : Row). sum y (sum_of w ns)) t.2 ∙ sum_assoc _ _ _

  -- its end was just made lower
  lowering_last : (ns : List ℕ) (n i j x v : ℕ) → Lowering i j x (n ∷ ns) v → (o : ℕ) × (j ≡ suc o) × (i ≤ o) × (k.below (d (suc o) v) (d o v) ≡ true)
  lowering_last [] n i j x v t = (i, sym t.4.0, omega arith, subst (λ y. k.below (d (suc i) y) (d i y) ≡ true) t.4.1 t.3)
  lowering_last (n₁ ∷ ns) n i j x v t = let r = lowering_last ns n₁ (suc i) j (reaches m n) v t.4 in (r.0, r.1, omega (arith, r.2), r.3)

module _ (k : Kind) (laws : Laws k) (m : Meaning) (J : LegsJoinPorts m) (w : ℕ → Row) (by : ℕ → ℕ → ℕ) (top : ℕ) (S : Layers k m w by top) where
  closed_light : (ns : List ℕ) (n i j x : ℕ) → Lowering k m w S.row i j x (n ∷ ns) x → j ≤ top → k.below (sum_of w (n ∷ ns)) zero_row ≡ true
  closed_light ns n i j x t h =
      let d = S.row in
      let r = lowering_last k m w d ns n i j x x t in
      let o = r.0 in
      let port : x < m.ports = subst (λ y. y < m.ports) t.1 (J n t.0).0 in
      let lower : k.below (d (suc o) x) (d i x) ≡ true = below_le_below k laws _ _ _ r.3 (layers_fall k laws m J w by top S i o x r.2 (omega (arith, r.1)) port) in
      let at_j : k.below (d j x) (d i x) ≡ true = subst (λ q. k.below (d q x) (d i x) ≡ true) (sym r.1) lower in
      let y : k.below (sum (d i x) (sum_of w (n ∷ ns))) (sum (d i x) zero_row) ≡ true
      = subst₂ (λ (a b : Row). k.below a b ≡ true) (lowering_sum k m w d (n ∷ ns) i j x x t) (sym (sum_zero (d i x))) at_j in
      sym (shifted_left k laws _ _ (d i x)) ∙ y

  -- every closed part of it weighs less than zero
  pub part_light : (xs ys zs : List ℕ) (i j x v : ℕ) → Lowering k m w S.row i j x (xs ++ (ys ++ zs)) v → j ≤ top → ClosedWalk m ys → k.below (sum_of w ys) zero_row ≡ true
  part_light xs [] zs i j x v t h c = absurd (omega (arith, c.some))
  part_light xs (n ∷ ys) zs i j x v t h c =
      let d = S.row in
      let a = lowering_split k m w d xs ((n ∷ ys) ++ zs) i j x v t in
      let b = lowering_split k m w d (n ∷ ys) zs a.0 j a.1 v a.3 in
      let e = same_ends m a.1 b.1 c.port c.port n ys (lowering_walk k m w d (n ∷ ys) a.0 b.0 a.1 b.1 b.2) c.back in
      closed_light ys n a.0 b.0 a.1 (subst (Lowering k m w d a.0 b.0 a.1 (n ∷ ys)) (e.1 ∙ sym e.0) b.2)
      (omega (arith, lowering_up k m w d zs b.0 j b.1 v b.3))
