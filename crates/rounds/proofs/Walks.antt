-- Walks joined and split, and the sums that they bring. Assumes nothing.
use Rattle.std.proofs.Common.{◌≡◌, ℕ, ◌+◌, ◌<◌, List, [], ◌∷◌, ◌++◌, sym, refl, ap, ◌∙◌, subst, arith, length-append}
use Rattle.rows.specs.Rows.{Row, sum}
use Rattle.rows.proofs.Group.{sum_assoc, sum_comm, sum_zero, zero_sum, left_comm}
use Rattle.charts.specs.Meaning.{Meaning}
use Rattle.rounds.specs.Legs.{reaches, LegsJoinPorts}
use Rattle.rounds.specs.Lists.{Turned}
use Rattle.rounds.specs.Walks.{Walk, ClosedWalk}
use Rattle.rounds.specs.Rates.{sum_of, hours_of}

module _ (w : ℕ → Row) where
  pub sum_append : (xs ys : List ℕ) → sum_of w (xs ++ ys) ≡ sum (sum_of w xs) (sum_of w ys)
  sum_append [] ys = sym (zero_sum _)
  sum_append (n ∷ xs) ys = ap (sum (w n)) (sum_append xs ys) ∙ sym (sum_assoc _ _ _)

  pub sum_push : (ns : List ℕ) (n : ℕ) → sum_of w (ns ++ (n ∷ [])) ≡ sum (sum_of w ns) (w n)
  sum_push ns n = sum_append ns (n ∷ []) ∙ ap (sum (sum_of w ns)) (sum_zero _)

  pub sum_swapped : (xs ys : List ℕ) → sum_of w (ys ++ xs) ≡ sum_of w (xs ++ ys)
  sum_swapped xs ys = sum_append ys xs ∙ sum_comm _ _ ∙ sym (sum_append xs ys)

  pub sum_turned : {old new : List ℕ} → Turned old new → sum_of w new ≡ sum_of w old
  sum_turned t = ap (sum_of w) t.is ∙ sum_swapped t.front (t.low ∷ t.after) ∙ ap (sum_of w) (sym t.was)

  -- a part taken out of the middle
  pub sum_part : (xs ys zs : List ℕ) → sum_of w (xs ++ (ys ++ zs)) ≡ sum (sum_of w ys) (sum_of w (xs ++ zs))
  sum_part xs ys zs =
      sum_append xs (ys ++ zs)
      ∙ ap (sum (sum_of w xs)) (sum_append ys zs)
      ∙ left_comm _ _ _
      ∙ ap (sum (sum_of w ys)) (sym (sum_append xs zs))

module _ (m : Meaning) where
  pub join : (u v x : ℕ) (xs ys : List ℕ) → Walk m u xs v → Walk m v ys x → Walk m u (xs ++ ys) x
  join u v x [] ys p q = subst (λ y. Walk m y ys x) (sym p) q
  join u v x (n ∷ xs) ys p q = (p.0, p.1, join (reaches m n) v x xs ys p.2 q)

  pub split : (u x : ℕ) (xs ys : List ℕ) → Walk m u (xs ++ ys) x → (v : ℕ) × Walk m u xs v × Walk m v ys x
  split u x [] ys p = (u, refl, p)
  split u x (n ∷ xs) ys p =
      let r = split (reaches m n) x xs ys p.2 in
      (r.0, (p.0, p.1, r.1), r.2)

  pub hours_append : (xs ys : List ℕ) → hours_of m (xs ++ ys) ≡ hours_of m xs + hours_of m ys
  hours_append [] ys = omega arith
  hours_append (n ∷ xs) ys = rw (hours_append xs ys) (omega arith)

  pub hours_swapped : (xs ys : List ℕ) → hours_of m (ys ++ xs) ≡ hours_of m (xs ++ ys)
  hours_swapped xs ys = omega (arith, hours_append xs ys, hours_append ys xs)

  pub hours_turned : {old new : List ℕ} → Turned old new → hours_of m new ≡ hours_of m old
  hours_turned t = ap (hours_of m) t.is ∙ hours_swapped t.front (t.low ∷ t.after) ∙ ap (hours_of m) (sym t.was)

  -- a closed walk begun at another of its ports
  pub closed_swapped : (xs ys : List ℕ) → ClosedWalk m (xs ++ ys) → ClosedWalk m (ys ++ xs)
  closed_swapped xs ys c =
      let s = split c.port c.port xs ys c.back in
      record {
        port = s.0;
        some = omega (arith, c.some, length-append xs ys, length-append ys xs);
        back = join s.0 c.port s.0 ys xs s.2 s.1;
      }

  -- a walk that ends at a port of the chart begins at one
  pub begins : LegsJoinPorts m → (u v : ℕ) (ns : List ℕ) → v < m.ports → Walk m u ns v → u < m.ports
  begins join_ports u v [] h r = rw r h
  begins join_ports u v (n ∷ ns) h r = rw (← r.1) (join_ports n r.0).0

  -- a walk that is not empty leads between the same two ports however it is told
  pub same_ends : (u v x y n : ℕ) (ns : List ℕ) → Walk m u (n ∷ ns) v → Walk m x (n ∷ ns) y → (u ≡ x) × (v ≡ y)
  same_ends u v x y n [] p q = (sym p.1 ∙ q.1, sym p.2 ∙ q.2)
  same_ends u v x y n (n₁ ∷ ns) p q = (sym p.1 ∙ q.1, (same_ends (reaches m n) v (reaches m n) y n₁ ns p.2 q.2).1)
