-- Stays within their limit, one and all. Assumes nothing.
use Rattle.std.proofs.Common.{◌≡◌, ℕ, zero, suc, ◌<◌, ◌≤◌, Bool, true, false, leb, List, [], ◌∷◌, length, get_or, refl, arith}
use Rattle.std.proofs.lemmas.Bool.{and_parts}
use Rattle.std.proofs.lemmas.Bool.Decides.{nat_tests}
use Rattle.limits.specs.Numbers.{most_hours}
use Rattle.charts.specs.Stays.{all_short}

pub short_at : (hs : List ℕ) (i : ℕ) → all_short hs ≡ true → get_or hs i 0 ≤ most_hours
short_at [] i e = omega arith
short_at (h ∷ hs) zero e = let o = and_parts (leb h most_hours) (all_short hs) e in grind (arith, nat_tests)
short_at (h ∷ hs) (suc i) e = short_at hs i (and_parts (leb h most_hours) (all_short hs) e).1

pub long_at : (hs : List ℕ) (i : ℕ) → most_hours < get_or hs i 0 → false ≡ all_short hs
long_at hs i h = by_test (all_short hs) refl
  where
    by_test : (b : Bool) → all_short hs ≡ b → false ≡ b
    by_test false e = refl
    by_test true e = absurd (omega (arith, short_at hs i e))

pub all_at : (hs : List ℕ) → ((i : ℕ) → i < length hs → get_or hs i 0 ≤ most_hours) → true ≡ all_short hs
all_at [] each = refl
all_at (h ∷ hs) each =
    let first : h ≤ most_hours = each 0 (omega arith) in
    let rest = all_at hs (λ i lt. each (suc i) (omega arith)) in
    grind (arith, nat_tests)
