-- The weight of a walk against a rate tells whether the walk is cheaper. Assumes nothing.
use Rattle.std.proofs.Common.{◌≡◌, ℕ, List, [], ◌∷◌, sym, refl, ap, ◌∙◌}
use Rattle.rows.specs.Rows.{Row, zero_row, sum, negative, times}
use Rattle.rows.specs.Kinds.{Kind, Laws}
use Rattle.rows.proofs.Group.{middle, zero_sum, negative_zero, negative_of_sum, times_zero, times_zero_row, times_sum, sum_times}
use Rattle.rows.proofs.Multiples.{less_below}
use Rattle.charts.specs.Meaning.{Meaning}
use Rattle.rounds.specs.Legs.{figures_at}
use Rattle.rounds.specs.Rates.{cost_of, hours_of, walk_cheaper, leg_weight, weight}

module _ (m : Meaning) (c : Row) (t : ℕ) where
  -- t times the cost, less the hours times c
  pub weight_is : (ns : List ℕ) → weight m c t ns ≡ sum (times t (cost_of m ns)) (negative (times (hours_of m ns) c))
  weight_is [] = sym (rw (times_zero_row t, times_zero c, negative_zero) (zero_sum _))
  weight_is (n ∷ ns) =
      let h = (figures_at m n).hours in
      ap (sum (leg_weight m c t n)) (weight_is ns)
      ∙ middle _ _ _ _
      ∙ sym (rw (times_sum t (figures_at m n).cost (cost_of m ns), sum_times h (hours_of m ns) c, negative_of_sum (times h c) (times (hours_of m ns) c)) refl)

  pub weight_tells : (k : Kind) → Laws k → (ns : List ℕ) → k.below (weight m c t ns) zero_row ≡ walk_cheaper k m ns c t
  weight_tells k laws ns = rw (weight_is ns) (less_below k laws _ _)
