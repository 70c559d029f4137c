-- What is shown under the limits keeps them. Assumes nothing.
use Rattle.std.proofs.Common.{◌≡◌, ℕ, Bool, true, false, cond, ◌&&◌, ltb, leb, Some, None, refl, subst, arith}
use Rattle.std.proofs.lemmas.Bool.{ltb-true, leb-true}
use Rattle.limits.specs.Numbers.{most_hours, most_cost}
use Rattle.limits.specs.Refusals.{if_refused}
use Rattle.limits.specs.declared.refusal.Refusal.TheVariants.{Port, Cost, Hours}
use Rattle.rows.specs.Kinds.{Kind}
use Rattle.charts.specs.Meaning.{Figures, blank, leg, over, Allowed}
use Rattle.charts.specs.Limits.{limited}

-- over is no leg
pub over_no_leg : {A : Type 0} {f : Figures} → over ≡ leg f → A
over_no_leg e = let z : ◌≡◌ {A = ℕ} 0 1 = cc in absurd (omega arith)

pub blank_no_leg : {A : Type 0} {f : Figures} → blank ≡ leg f → A
blank_no_leg e = let z : ◌≡◌ {A = ℕ} 0 1 = cc in absurd (omega arith)

pub limited_allowed : (k : Kind) (p : ℕ) (f g : Figures) → limited k p f ≡ leg g → Allowed k p g
limited_allowed k p f g = by_tests _ _ _ _ refl refl refl refl
  where
    by_tests : (a b c d : Bool) → ltb f.from p ≡ a → ltb f.to p ≡ b → leb f.hours most_hours ≡ c → leb (k.size f.cost) most_cost ≡ d
        → if_refused (cond (a && b) (cond c (cond d None (Some Cost)) (Some Hours)) (Some Port)) over (leg f) ≡ leg g → Allowed k p g
    by_tests true true true true from to hours cost e =
        let same : f ≡ g = cc in
        subst (Allowed k p) same (record { from_port = ltb-true _ _ from; to_port = ltb-true _ _ to; few_hours = leb-true _ _ hours; small_cost = leb-true _ _ cost })
    by_tests true true true false from to hours cost e = over_no_leg e
    by_tests true true false d from to hours cost e = over_no_leg e
    by_tests true false c d from to hours cost e = over_no_leg e
    by_tests false b c d from to hours cost e = over_no_leg e
