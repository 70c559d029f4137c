-- What follows for every kind that keeps the laws. Assumes nothing.
use Rattle.std.specs.Prelude.{◌≡◌, ℕ, ◌<◌, true, ◌⊎◌}
use Rattle.rows.specs.Rows.{Row, sum, times}
use Rattle.rows.specs.Kinds.{Kind, Level, cheaper}

-- of two rows one is below the other, or they are level
abbrev pub BelowOrLevel : Kind → Type 0
BelowOrLevel k = (a b : Row) → (k.below a b ≡ true) ⊎ ((k.below b a ≡ true) ⊎ Level k a b)

-- adding one row to both sides of level rows leaves them level
abbrev pub SumsKeepLevel : Kind → Type 0
SumsKeepLevel k = (a b c : Row) → Level k a b → Level k (sum a c) (sum b c)

-- multiplying both sides by n from 1 up changes neither below nor level
abbrev pub MultiplesKeepBelow : Kind → Type 0
MultiplesKeepBelow k = (n : ℕ) (a b : Row) → 0 < n → k.below (times n a) (times n b) ≡ k.below a b

abbrev pub MultiplesKeepLevel : Kind → Type 0
MultiplesKeepLevel k = (n : ℕ) (a b : Row) → 0 < n → Level k a b → Level k (times n a) (times n b)

-- of three rates in some hours, the first cheaper than the second and that than the third: the first is cheaper than the third
abbrev pub CheaperTransitive : Kind → Type 0
CheaperTransitive k = (c1 c2 c3 : Row) (t1 t2 t3 : ℕ) → 0 < t1 → 0 < t2 → 0 < t3
    → cheaper k c1 t1 c2 t2 ≡ true → cheaper k c2 t2 c3 t3 ≡ true → cheaper k c1 t1 c3 t3 ≡ true

pub record Consequences (k : Kind) : Type 0 where
  pub below_or_level : BelowOrLevel k
  pub sums_keep_level : SumsKeepLevel k
  pub multiples_keep_below : MultiplesKeepBelow k
  pub multiples_keep_level : MultiplesKeepLevel k
  pub cheaper_transitive : CheaperTransitive k
