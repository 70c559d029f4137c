use Rattle.std.proofs.Common.{refl, lit≤}
use Rattle.rows.specs.Rows.{two_places}
use Rattle.rows.specs.Orders.{by_dollars_then_tonnes}
use Rattle.triangle_facts.proofs.Written.{written_shows}
use Rattle.triangle_facts.proofs.legs.triangle_with_tonnes.Goals as goal

pub returns-clause-legs : goal.returns-clause-legs
returns-clause-legs c = c.legs_at.ensures _ _ _ _ refl

pub returns-clause-chart : goal.returns-clause-chart
returns-clause-chart c = written_shows by_dollars_then_tonnes (λ c. two_places c.dollars c.tonnes) 3 _ _ (returns-clause-legs c) (lit≤ tt)
