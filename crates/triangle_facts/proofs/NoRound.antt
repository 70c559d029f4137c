-- The legs 0 and 2 alone make no round, and a leg of no hours from a port to itself makes an idle one. Assumes nothing.
use Rattle.std.proofs.Common.{ℕ, false, List, [], ◌∷◌, refl, lit<}
use Rattle.rows.specs.Rows.{zero_row, sum, negative, times}
use Rattle.rows.specs.Orders.{by_dollars}
use Rattle.rows.proofs.Lawful.{by_dollars_laws}
use Rattle.charts.specs.Meaning.{Meaning}
use Rattle.rounds.specs.Legs.{LegsJoinPorts}
use Rattle.rounds.specs.Rounds.{Round}
use Rattle.rounds.specs.Rates.{leg_weight, IdleRound}
use Rattle.rounds.specs.Layers.{Settled}
use Rattle.rounds.specs.Bare.{less_one, bare}
use Rattle.rounds.proofs.Bare.{less_one_dollars}
use Rattle.rounds.proofs.SearchTheorems.{bare_tells}
use Rattle.triangle_facts.specs.Triangle.{minus, no_way_back, idle_at_port_1}
use Rattle.triangle_facts.proofs.Settled.{of_four, settled_best}

abbrev bare_chart : Meaning
bare_chart = bare false less_one no_way_back

bare_joins : LegsJoinPorts bare_chart
bare_joins = of_four bare_chart _ (λ n. refl) (lit< tt, lit< tt) (lit< tt, lit< tt) (lit< tt, lit< tt) (lit< tt, lit< tt)

-- each leg of the bare chart leads one port on at a dollar less
bare_settled : Settled by_dollars bare_chart (leg_weight bare_chart zero_row 1) minus
unfolding sum zero_row times negative
bare_settled = of_four bare_chart _ (λ n. refl) refl refl refl refl

pub no_round_back : (ns : List ℕ) → Round no_way_back ns → ⊥
no_round_back ns r = (bare_tells by_dollars by_dollars_laws less_one less_one_dollars.0 no_way_back).none (settled_best bare_chart bare_joins zero_row 1 minus bare_settled) ns r.closed

pub idle_round_at_port_1 : IdleRound idle_at_port_1 (1 ∷ [])
idle_round_at_port_1 = record {
  round = record { closed = record { port = 1; some = lit< tt; back = (refl, refl, refl) }; once = refl; lowest = tt };
  idle = refl;
}
