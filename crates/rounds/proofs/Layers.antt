-- The first layer, and the layer that comes of trying every leg. Assumes nothing.
use Rattle.std.proofs.Common.{◌≡◌, ℕ, zero, suc, ◌<◌, ◌≤◌, false, cond, leb, ◌⊎◌, List, [], ◌∷◌, ◌++◌, length, sym, refl, ap, ◌∙◌, subst, inl, inr, arith, length-append}
use Rattle.std.proofs.lemmas.Bool.{cases_eq, le-leb, lt-leb, cond-true, cond-false}
use Rattle.rows.specs.Rows.{Row, zero_row, sum}
use Rattle.rows.specs.Kinds.{Kind, Laws}
use Rattle.rows.proofs.Order.{le_trans}
use Rattle.charts.specs.Meaning.{Meaning}
use Rattle.rounds.specs.Legs.{leaves, LegsJoinPorts}
use Rattle.rounds.specs.Walks.{Walk}
use Rattle.rounds.specs.Rates.{sum_of}
use Rattle.rounds.specs.Marks.{WeighedWalk}
use Rattle.rounds.specs.Layers.{Layer, Same, Lower, Relaxed, Layers}
use Rattle.rounds.proofs.Legs.{listed}
use Rattle.rounds.proofs.Walks.{join, split, sum_push}
use Rattle.rounds.proofs.Relaxing.{relaxed_like, no_worse}

-- a list by its last number
abbrev Last : List ℕ → Type 0
Last ns = (ns ≡ []) ⊎ ((ms : List ℕ) × (n : ℕ) × (ns ≡ ms ++ (n ∷ [])))

last : (ns : List ℕ) → Last ns
last [] = inl refl
last (x ∷ xs) = go (last xs)
  where
    go : Last xs → Last (x ∷ xs)
    go (inl e) = inr ([], x, ap (◌∷◌ x) e)
    go (inr p) = inr (x ∷ p.0, p.1, ap (◌∷◌ x) p.2)

module _ (k : Kind) (laws : Laws k) (m : Meaning) (J : LegsJoinPorts m) (w : ℕ → Row) where
  pub first_layer : Layer k m w 0 (λ v. zero_row)
  first_layer = record {
    attained = λ v h. (record { start = v; legs = []; leads = refl; weighs = refl }, omega arith);
    least = λ u v ns h r i. empty ns i;
  }
    where
      empty : (ns : List ℕ) → length ns ≤ 0 → k.below (sum_of w ns) zero_row ≡ false
      empty [] i = laws.irreflexive _
      empty (n ∷ ns) i = absurd (omega arith)

  -- only the ports of the chart matter
  pub layer_like : (i : ℕ) (d e : ℕ → Row) → ((v : ℕ) → v < m.ports → d v ≡ e v) → Layer k m w i d → Layer k m w i e
  layer_like i d e x l = record {
    attained = λ v h. let a = l.attained v h in (record { start = a.0.start; legs = a.0.legs; leads = a.0.leads; weighs = a.0.weighs ∙ x v h }, a.1);
    least = λ u v ns h r b. subst (λ (y : Row). k.below (sum_of w ns) y ≡ false) (x v h) (l.least u v ns h r b);
  }

  pub next_layer : (i : ℕ) (d e : ℕ → Row) (by : ℕ → ℕ) → Layer k m w i d → Relaxed k m w d e by (length m.entries) → Layer k m w (suc i) e
  next_layer i d e by l s = record { attained = λ v h. reach v h (s.made v h); least = λ u v ns h r b. low u v ns h r b (last ns) }
    where
      reach : (v : ℕ) → v < m.ports → Same k m w d e by v ⊎ Lower k m w d e by v → (a : WeighedWalk m w v (e v)) × (length a.legs ≤ suc i)
      reach v h (inl p) =
          let a = l.attained v h in
          (record { start = a.0.start; legs = a.0.legs; leads = a.0.leads; weighs = a.0.weighs ∙ sym p.same }, omega (arith, a.1))
      reach v h (inr p) =
          let n = p.number in
          let r = l.attained (leaves m n) (J n p.is_there).0 in
          let a = r.0 in (
            record {
              start = a.start;
              legs = a.legs ++ (n ∷ []);
              leads = join m a.start (leaves m n) v a.legs (n ∷ []) a.leads (p.is_there, refl, p.to);
              weighs = sum_push w a.legs n ∙ ap (λ (x : Row). sum x (w n)) a.weighs ∙ sym p.comes;
            },
            omega (arith, r.1, length-append a.legs (n ∷ [])),
          )

      low : (u v : ℕ) (ns : List ℕ) → v < m.ports → Walk m u ns v → length ns ≤ suc i → Last ns → k.below (sum_of w ns) (e v) ≡ false
      low u v ns h r b (inl p) = le_trans k laws (e v) (d v) (sum_of w ns) (no_worse k m w laws d e by (length m.entries) v h s) (l.least u v ns h r (omega (arith, ap length p)))
      low u v ns h r b (inr p) =
          let ms = p.0 in
          let n = p.1 in
          let q = split m u v ms (n ∷ []) (subst (λ x. Walk m u x v) p.2 r) in
          let t = q.2.0 in
          let before : Walk m u ms (leaves m n) = subst (Walk m u ms) (sym q.2.1) q.1 in
          let x = l.least u (leaves m n) ms (J n t).0 before (omega (arith, ap length p.2, length-append ms (n ∷ []))) in
          let y : k.below (sum (sum_of w ms) (w n)) (sum (d (leaves m n)) (w n)) ≡ false = laws.shifted _ _ _ ∙ x in
          let z : k.below (sum (d (leaves m n)) (w n)) (e v) ≡ false = subst (λ o. k.below (sum (d (leaves m n)) (w n)) (e o) ≡ false) q.2.2 (s.tried n (listed m n t) t) in
          subst (λ (o : Row). k.below o (e v) ≡ false) (sym (ap (sum_of w) p.2 ∙ sum_push w ms n)) (le_trans k laws _ _ _ z y)

  module _ (by : ℕ → ℕ → ℕ) (top : ℕ) (S : Layers k m w by top) where
    pub layer_of : (i : ℕ) → i ≤ top → Layer k m w i (S.row i)
    layer_of zero h = layer_like 0 (λ v. zero_row) (S.row 0) (λ v b. sym (S.start v)) first_layer
    layer_of (suc i) h = next_layer i (S.row i) (S.row (suc i)) (by i) (layer_of i (omega arith)) (S.steps i h)

    -- no port gets higher from layer to layer
    pub layers_fall : (i j v : ℕ) → i ≤ j → j ≤ top → v < m.ports → k.below (S.row i v) (S.row j v) ≡ false
    layers_fall i zero v h b p = let e : i ≡ 0 = omega arith in rw e (laws.irreflexive _)
    layers_fall i (suc j) v h b p = go (cases_eq i (suc j)) (λ q. layers_fall i j v q (omega arith) p)
      where
        go : (i ≡ suc j) ⊎ (i ≡ suc j → ⊥) → (i ≤ j → k.below (S.row i v) (S.row j v) ≡ false) → k.below (S.row i v) (S.row (suc j) v) ≡ false
        go (inl e) rec = rw e (laws.irreflexive _)
        go (inr e) rec = le_trans k laws _ _ _ (no_worse k m w laws (S.row j) (S.row (suc j)) (by j) (length m.entries) v p (S.steps j b)) (rec (omega arith))

-- one layer more on top: e made from d, and by₂ like by below top
module _ (k : Kind) (m : Meaning) (J : LegsJoinPorts m) (w : ℕ → Row) (by by₂ : ℕ → ℕ → ℕ) (top : ℕ) (S : Layers k m w by top) (d e : ℕ → Row) where
  stacked : ℕ → ℕ → Row
  stacked i v = cond (leb i top) (S.row i v) (e v)

  stacked_low : (i v : ℕ) → i ≤ top → stacked i v ≡ S.row i v
  unfolding stacked
  stacked_low i v h = cond-true (leb i top) (S.row i v) (e v) (le-leb i top h)

  stacked_high : (v : ℕ) → stacked (suc top) v ≡ e v
  unfolding stacked
  stacked_high v = cond-false (leb (suc top) top) (S.row (suc top) v) (e v) (lt-leb (suc top) top (omega arith))

  pub layers_more : ((v : ℕ) → v < m.ports → S.row top v ≡ d v) → Relaxed k m w d e (by₂ top) (length m.entries)
      → ((i v : ℕ) → i < top → v < m.ports → by₂ i v ≡ by i v) → (N : Layers k m w by₂ (suc top)) × ((v : ℕ) → N.row (suc top) v ≡ e v)
  layers_more same s old =
      (record { row = stacked; start = λ v. stacked_low 0 v (omega arith) ∙ S.start v; steps = λ i h. step i (cases_eq i top) h }, stacked_high)
    where
      step : (i : ℕ) → (i ≡ top) ⊎ (i ≡ top → ⊥) → i < suc top → Relaxed k m w (stacked i) (stacked (suc i)) (by₂ i) (length m.entries)
      step i (inr q) h =
          let b : i < top = omega arith in
          relaxed_like k m w J (S.row i) (S.row (suc i)) (stacked i) (stacked (suc i)) (by i) (by₂ i) (length m.entries)
          (λ v c. stacked_low i v (omega arith)) (λ v c. stacked_low (suc i) v (omega arith)) (λ v c. old i v b c) (S.steps i b)
      step i (inl q) h =
          subst (λ j. Relaxed k m w (stacked j) (stacked (suc j)) (by₂ j) (length m.entries)) (sym q)
          (relaxed_like k m w J d e (stacked top) (stacked (suc top)) (by₂ top) (by₂ top) (length m.entries)
          (λ v c. stacked_low top v (omega arith) ∙ same v c) (λ v c. stacked_high v) (λ v c. refl) s)
