use Rattle.std.proofs.Common.{pos, neg_ℤ, ℤ, rules, ap, ◌∙◌, lit≤, Option, ◌∷◌, []}
use Rattle.limits.specs.Refusals.{if_refused}
use Rattle.limits.specs.declared.refusal.Refusal.{Refusal}
use Rattle.rows.specs.Rows.{one_place}
use Rattle.rows.specs.Orders.{by_dollars}
use Rattle.charts.specs.Meaning.{Meaning, over}
use Rattle.costs.specs.declared.money.Money.{Money}
use Rattle.triangle_facts.specs.Triangle.{sails, minus}
use Rattle.triangle_facts.proofs.Written.{written_shows}
use Rattle.triangle_facts.proofs.legs.triangle_at.Goals as goal

abbrev money : ℤ → Money
money x = record { dollars = x }

pub returns-clause-legs : goal.returns-clause-legs
returns-clause-legs c = c.legs_at.ensures (money (neg_ℤ (pos 1200))) (money c.args.leg_1) (money (neg_ℤ (pos 600))) (money (neg_ℤ (pos 600))) (search rules)

-- the triangle, where leg 1 is over if its cost is refused
abbrev with_leg_1 : ℤ → Option Refusal → Meaning
with_leg_1 x r = record {
  ports = 3;
  entries = sails 0 1 40 (minus 1200) ∷ (if_refused r over (sails 1 0 20 (one_place x)) ∷ (sails 1 2 30 (minus 600) ∷ (sails 2 0 50 (minus 600) ∷ [])));
}

pub returns-clause-chart : goal.returns-clause-chart
returns-clause-chart c h = written_shows by_dollars (λ c. one_place c.dollars) 3 _ _ (returns-clause-legs c) (lit≤ tt) ∙ ap (with_leg_1 c.args.leg_1) h
