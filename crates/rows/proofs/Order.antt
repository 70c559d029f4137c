-- The order of rows under a lawful kind. 'a is at most b' is said as: b is not below a. Assumes nothing.
use Rattle.std.proofs.Common.{◌≡◌, Bool, true, false, ◌⊎◌, refl, inl, inr}
use Rattle.std.proofs.lemmas.Bool.{both_ways}
use Rattle.rows.specs.Rows.{Row}
use Rattle.rows.specs.Kinds.{Kind, Laws, Level}
use Rattle.rows.specs.Theorems.{BelowOrLevel}

-- a test cannot come out both ways
pub clash : {A : Type 0} {b : Bool} → b ≡ true → b ≡ false → A
clash {b = b} p q = absurd (both_ways b q p)

module _ (k : Kind) (laws : Laws k) where
  -- a at most b at most c: a at most c
  pub le_trans : (a b c : Row) → k.below b a ≡ false → k.below c b ≡ false → k.below c a ≡ false
  le_trans a b c p q = go (k.below c a) (k.below a b) (k.below b c) refl refl refl
    where
      go : (x y z : Bool) → k.below c a ≡ x → k.below a b ≡ y → k.below b c ≡ z → k.below c a ≡ false
      go false y z e f g = e
      go true true z e f g = clash (laws.transitive c a b e f) q
      go true false true e f g = clash (laws.transitive b c a g e) p
      go true false false e f g = (laws.level_transitive c b a (q, g) (p, f)).0

  pub below_le : (a b : Row) → k.below a b ≡ true → k.below b a ≡ false
  below_le a b p = go (k.below b a) refl
    where
      go : (x : Bool) → k.below b a ≡ x → k.below b a ≡ false
      go false e = e
      go true e = clash (laws.transitive a b a p e) (laws.irreflexive a)

  -- a at most b, and b below c: a below c
  pub le_below : (a b c : Row) → k.below b a ≡ false → k.below b c ≡ true → k.below a c ≡ true
  le_below a b c p q = go (k.below a c) refl
    where
      go : (x : Bool) → k.below a c ≡ x → k.below a c ≡ true
      go true e = e
      go false e = clash q (le_trans c a b e p)

  -- a below b, and b at most c: a below c
  pub below_le_below : (a b c : Row) → k.below a b ≡ true → k.below c b ≡ false → k.below a c ≡ true
  below_le_below a b c p q = go (k.below a c) refl
    where
      go : (x : Bool) → k.below a c ≡ x → k.below a c ≡ true
      go true e = e
      go false e = clash p (le_trans b c a q e)

  pub below_or_level : BelowOrLevel k
  below_or_level a b = go (k.below a b) (k.below b a) refl refl
    where
      go : (x y : Bool) → k.below a b ≡ x → k.below b a ≡ y → (k.below a b ≡ true) ⊎ ((k.below b a ≡ true) ⊎ Level k a b)
      go true y p q = inl p
      go false true p q = inr (inl q)
      go false false p q = inr (inr (p, q))
