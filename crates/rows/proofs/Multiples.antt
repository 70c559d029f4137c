-- Order, sums and multiples under a lawful kind. Assumes nothing.
use Rattle.std.proofs.Common.{◌≡◌, ℕ, zero, suc, Bool, true, false, sym, refl, ap, ◌∙◌, arith}
use Rattle.rows.specs.Rows.{Row, zero_row, sum, negative, times}
use Rattle.rows.specs.Kinds.{Kind, Laws}
use Rattle.rows.specs.Theorems.{SumsKeepLevel, MultiplesKeepBelow, MultiplesKeepLevel, CheaperTransitive, Consequences}
use Rattle.rows.proofs.Group.{sum_comm, sum_negative, times_zero, times_one, times_suc, times_swap}
use Rattle.rows.proofs.Order.{le_trans, below_or_level}

module _ (k : Kind) (laws : Laws k) where
  pub shifted_left : (a b c : Row) → k.below (sum c a) (sum c b) ≡ k.below a b
  shifted_left a b c = rw (sum_comm c a, sum_comm c b) (laws.shifted a b c)

  -- a less b is below zero exactly when a is below b
  pub less_below : (a b : Row) → k.below (sum a (negative b)) zero_row ≡ k.below a b
  less_below a b = ap (k.below (sum a (negative b))) (sym (sum_negative b)) ∙ laws.shifted a b (negative b)

  pub sums_below : (a b c d : Row) → k.below a b ≡ true → k.below c d ≡ true → k.below (sum a c) (sum b d) ≡ true
  sums_below a b c d p q = laws.transitive _ _ _ (laws.shifted a b c ∙ p) (shifted_left c d b ∙ q)

  -- a at most b and c at most d: their sums likewise
  pub sums_le : (a b c d : Row) → k.below b a ≡ false → k.below d c ≡ false → k.below (sum b d) (sum a c) ≡ false
  sums_le a b c d p q = le_trans k laws _ _ _ (laws.shifted b a c ∙ p) (shifted_left d c b ∙ q)

  pub sums_keep_level : SumsKeepLevel k
  sums_keep_level a b c h = (laws.shifted a b c ∙ h.0, laws.shifted b a c ∙ h.1)

  times_below : (n : ℕ) (a b : Row) → k.below a b ≡ true → k.below (times (suc n) a) (times (suc n) b) ≡ true
  times_below zero a b p = rw (times_one a, times_one b) p
  times_below (suc n) a b p = rw (times_suc (suc n) a, times_suc (suc n) b) (sums_below a b _ _ p (times_below n a b p))

  times_le : (n : ℕ) (a b : Row) → k.below a b ≡ false → k.below (times n a) (times n b) ≡ false
  times_le zero a b p = rw (times_zero a, times_zero b) (laws.irreflexive _)
  times_le (suc n) a b p = rw (times_suc n a, times_suc n b) (sums_le b a _ _ p (times_le n a b p))

  pub multiples_keep_below : MultiplesKeepBelow k
  multiples_keep_below zero a b h = absurd (omega arith)
  multiples_keep_below (suc n) a b h = go (k.below a b) refl
    where
      go : (x : Bool) → k.below a b ≡ x → k.below (times (suc n) a) (times (suc n) b) ≡ k.below a b
      go true e = times_below n a b e ∙ sym e
      go false e = times_le (suc n) a b e ∙ sym e

  pub multiples_keep_level : MultiplesKeepLevel k
  multiples_keep_level n a b h e = (multiples_keep_below n a b h ∙ e.0, multiples_keep_below n b a h ∙ e.1)

  -- each side of both comparisons, multiplied by the hours that it lacks
  pub cheaper_transitive : CheaperTransitive k
  cheaper_transitive c1 c2 c3 t1 t2 t3 h1 h2 h3 p q =
      let x : k.below (times t3 (times t2 c1)) (times t3 (times t1 c2)) ≡ true = multiples_keep_below t3 _ _ h3 ∙ p in
      let y : k.below (times t1 (times t3 c2)) (times t1 (times t2 c3)) ≡ true = multiples_keep_below t1 _ _ h1 ∙ q in
      let x' : k.below (times t2 (times t3 c1)) (times t1 (times t3 c2)) ≡ true = rw (times_swap t3 t2 c1, times_swap t3 t1 c2) at x in
      let y' : k.below (times t1 (times t3 c2)) (times t2 (times t1 c3)) ≡ true = rw (times_swap t1 t2 c3) at y in
      sym (multiples_keep_below t2 _ _ h2) ∙ laws.transitive _ _ _ x' y'

  pub consequences : Consequences k
  consequences = record {
    below_or_level = below_or_level k laws;
    sums_keep_level = sums_keep_level;
    multiples_keep_below = multiples_keep_below;
    multiples_keep_level = multiples_keep_level;
    cheaper_transitive = cheaper_transitive;
  }
