-- Marks that no leg makes lower, and so the best rounds. Assumes nothing.
use Rattle.std.proofs.Common.{◌≡◌, ℕ, zero, suc, ◌<◌, true, false, [], ◌∷◌, sym, refl, ◌∙◌, lit<, rules}
use Rattle.rows.specs.Rows.{Row, zero_row, sum, negative, times}
use Rattle.rows.specs.Orders.{by_dollars}
use Rattle.rows.proofs.Order.{clash}
use Rattle.rows.proofs.Lawful.{by_dollars_laws}
use Rattle.charts.specs.Meaning.{Meaning}
use Rattle.rounds.specs.Legs.{there, LegsJoinPorts}
use Rattle.rounds.specs.Rates.{leg_weight, Best}
use Rattle.rounds.specs.Marks.{WeighedWalk, Mark}
use Rattle.rounds.specs.Layers.{Settled}
use Rattle.rounds.proofs.Weights.{weight_tells}
use Rattle.rounds.proofs.Settled.{settled_closed, settled_mark}
use Rattle.triangle_facts.specs.Triangle.{dollars, minus, triangle_at, triangle, port_2_closed}

-- what holds of the numbers 0 to 3 holds of every leg, where no other number is that of a leg
pub of_four : (m : Meaning) (P : ℕ → Type 0) → ((n : ℕ) → there m (suc (suc (suc (suc n)))) ≡ false) → P 0 → P 1 → P 2 → P 3 → (n : ℕ) → there m n ≡ true → P n
of_four m P none p₀ p₁ p₂ p₃ zero h = p₀
of_four m P none p₀ p₁ p₂ p₃ (suc zero) h = p₁
of_four m P none p₀ p₁ p₂ p₃ (suc (suc zero)) h = p₂
of_four m P none p₀ p₁ p₂ p₃ (suc (suc (suc zero))) h = p₃
of_four m P none p₀ p₁ p₂ p₃ (suc (suc (suc (suc n)))) h = clash h (none n)

-- where no leg makes a port lower, no closed walk is cheaper
pub settled_best : (m : Meaning) → LegsJoinPorts m → (c : Row) (t : ℕ) (d : ℕ → Row) → Settled by_dollars m (leg_weight m c t) d → Best by_dollars m c t
settled_best m J c t d s ns o = sym (weight_tells m c t by_dollars by_dollars_laws ns) ∙ settled_closed by_dollars by_dollars_laws m J (leg_weight m c t) d s ns o

triangle_joins : (c : Row) → LegsJoinPorts (triangle_at c)
triangle_joins c = of_four (triangle_at c) _ (λ n. refl) (search rules) (search rules) (search rules) (search rules)

closed_joins : LegsJoinPorts port_2_closed
closed_joins = of_four port_2_closed _ (λ n. refl) (search rules) (search rules) (search rules) (search rules)

-- the marks against −2,400 dollars in 120 hours
abbrev marks : ℕ → Row
marks zero = dollars 0
marks (suc v) = minus 48000

-- the marks against −1,201 dollars in 60 hours, leg 1 at −1 dollar
abbrev other_marks : ℕ → Row
other_marks zero = dollars 0
other_marks (suc zero) = minus 23960
other_marks (suc (suc v)) = minus 23930

-- the marks against −900 dollars in 60 hours, port 2 closed
abbrev closed_marks : ℕ → Row
closed_marks zero = dollars 0
closed_marks (suc zero) = minus 36000
closed_marks (suc (suc v)) = dollars 0

marks_settled : Settled by_dollars triangle (leg_weight triangle (minus 2400) 120) marks
unfolding sum zero_row times negative
marks_settled = of_four triangle _ (λ n. refl) refl refl refl refl

level_settled : Settled by_dollars (triangle_at (dollars 0)) (leg_weight (triangle_at (dollars 0)) (minus 2400) 120) marks
unfolding sum zero_row times negative
level_settled = of_four (triangle_at (dollars 0)) _ (λ n. refl) refl refl refl refl

other_settled : Settled by_dollars (triangle_at (minus 1)) (leg_weight (triangle_at (minus 1)) (minus 1201) 60) other_marks
unfolding sum zero_row times negative
other_settled = of_four (triangle_at (minus 1)) _ (λ n. refl) refl refl refl refl

closed_settled : Settled by_dollars port_2_closed (leg_weight port_2_closed (minus 900) 60) closed_marks
unfolding sum zero_row times negative
closed_settled = of_four port_2_closed _ (λ n. refl) refl refl refl refl

pub triangle_best : Best by_dollars triangle (minus 2400) 120
triangle_best = settled_best _ (triangle_joins _) _ _ marks marks_settled

pub level_best : Best by_dollars (triangle_at (dollars 0)) (minus 2400) 120
level_best = settled_best _ (triangle_joins _) _ _ marks level_settled

pub other_best : Best by_dollars (triangle_at (minus 1)) (minus 1201) 60
other_best = settled_best _ (triangle_joins _) _ _ other_marks other_settled

pub closed_best : Best by_dollars port_2_closed (minus 900) 60
closed_best = settled_best _ closed_joins _ _ closed_marks closed_settled

marks_low : (u : ℕ) → u < 3 → by_dollars.below zero_row (marks u) ≡ false
unfolding zero_row
marks_low zero h = refl
marks_low (suc u) h = refl

-- a walk that weighs as much as the mark
mark_of : (v : ℕ) → v < 3 → WeighedWalk triangle (leg_weight triangle (minus 2400) 120) v (marks v) → Mark by_dollars triangle (minus 2400) 120 v (marks v)
mark_of v h a = settled_mark by_dollars by_dollars_laws triangle (triangle_joins _) (leg_weight triangle (minus 2400) 120) marks marks_settled marks_low v h a

pub mark_0 : Mark by_dollars triangle (minus 2400) 120 0 (dollars 0)
unfolding zero_row
mark_0 = mark_of 0 (lit< tt) (record { start = 0; legs = []; leads = refl; weighs = refl })

pub mark_1 : Mark by_dollars triangle (minus 2400) 120 1 (minus 48000)
unfolding sum zero_row times negative
mark_1 = mark_of 1 (lit< tt) (record { start = 0; legs = 0 ∷ []; leads = search rules; weighs = refl })

pub mark_2 : Mark by_dollars triangle (minus 2400) 120 2 (minus 48000)
unfolding sum zero_row times negative
mark_2 = mark_of 2 (lit< tt) (record { start = 0; legs = 0 ∷ (2 ∷ []); leads = search rules; weighs = refl })
