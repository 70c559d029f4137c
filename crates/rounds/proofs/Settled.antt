-- A layer that no leg makes lower: its rows are the marks, and no closed walk weighs less than zero. Assumes nothing.
use Rattle.std.proofs.Common.{◌≡◌, ℕ, ◌<◌, false, List, [], ◌∷◌, length, sym, refl, ap, ◌∙◌, subst, arith}
use Rattle.rows.specs.Rows.{Row, zero_row, sum}
use Rattle.rows.specs.Kinds.{Kind, Laws, Level}
use Rattle.rows.proofs.Group.{sum_assoc, sum_zero, zero_sum}
use Rattle.rows.proofs.Order.{le_trans}
use Rattle.rows.proofs.Multiples.{shifted_left}
use Rattle.charts.specs.Meaning.{Meaning}
use Rattle.rounds.specs.Legs.{leaves, reaches, LegsJoinPorts}
use Rattle.rounds.specs.Walks.{Walk, ClosedWalk}
use Rattle.rounds.specs.Rates.{sum_of}
use Rattle.rounds.specs.Marks.{WeighedWalk, LeastWeight}
use Rattle.rounds.specs.Layers.{Layer, Relaxed, Settled}
use Rattle.rounds.proofs.Legs.{listed}
use Rattle.rounds.proofs.Walks.{begins}

-- two least weights at one port are level
pub one_least : (k : Kind) (m : Meaning) (w : ℕ → Row) (v : ℕ) (x y : Row) → LeastWeight k m w v x → LeastWeight k m w v y → Level k x y
one_least k m w v x y p q =
    let a = p.some in
    let b = q.some in (
      ap (λ (z : Row). k.below z y) (sym a.weighs) ∙ q.least a.start a.legs a.leads,
      ap (λ (z : Row). k.below z x) (sym b.weighs) ∙ p.least b.start b.legs b.leads,
    )

module _ (k : Kind) (laws : Laws k) (m : Meaning) (J : LegsJoinPorts m) (w : ℕ → Row) where
  -- every leg tried, and no port lower
  pub same_settled : (d e : ℕ → Row) (by : ℕ → ℕ) → Relaxed k m w d e by (length m.entries) → ((v : ℕ) → v < m.ports → k.below (e v) (d v) ≡ false) → Settled k m w d
  same_settled d e by s h n p = le_trans k laws _ _ _ (h (reaches m n) (J n p).1) (s.tried n (listed m n p) p)

  module _ (d : ℕ → Row) (s : Settled k m w d) where
    -- no walk falls below the difference of its ends
    settled_walk : (u v : ℕ) (ns : List ℕ) → Walk m u ns v → k.below (sum (d u) (sum_of w ns)) (d v) ≡ false
    settled_walk u v [] r = rw (sum_zero (d u), r) (laws.irreflexive (d v))
    settled_walk u v (n ∷ ns) r =
        let x = settled_walk (reaches m n) v ns r.2 in
        let y : k.below (sum (sum (d (leaves m n)) (w n)) (sum_of w ns)) (sum (d (reaches m n)) (sum_of w ns)) ≡ false = laws.shifted _ _ _ ∙ s n r.0 in
        let z = le_trans k laws _ _ _ x y in
        subst (λ o. k.below (sum (d o) (sum_of w (n ∷ ns))) (d v) ≡ false) r.1 (subst (λ (o : Row). k.below o (d v) ≡ false) (sum_assoc _ _ _) z)

    pub settled_closed : (ns : List ℕ) → ClosedWalk m ns → k.below (sum_of w ns) zero_row ≡ false
    settled_closed ns c =
        let u = c.port in
        sym (shifted_left k laws _ _ (d u)) ∙ ap (k.below (sum (d u) (sum_of w ns))) (sum_zero (d u)) ∙ settled_walk u u ns c.back

    -- where it is nowhere above zero, and some walk to port v weighs as much
    pub settled_mark : ((u : ℕ) → u < m.ports → k.below zero_row (d u) ≡ false) → (v : ℕ) → v < m.ports → WeighedWalk m w v (d v) → LeastWeight k m w v (d v)
    settled_mark low v h a = record {
      some = a;
      least = λ x ns r.
          let y : k.below (sum zero_row (sum_of w ns)) (sum (d x) (sum_of w ns)) ≡ false = laws.shifted _ _ _ ∙ low x (begins m J x v ns h r) in
          subst (λ (z : Row). k.below z (d v) ≡ false) (zero_sum _) (le_trans k laws _ _ _ (settled_walk x v ns r) y);
    }

    pub settled_least : (i : ℕ) → Layer k m w i d → (v : ℕ) → v < m.ports → LeastWeight k m w v (d v)
    settled_least i l v h = settled_mark (λ u b. l.least u u [] b refl (omega arith)) v h (l.attained v h).0
