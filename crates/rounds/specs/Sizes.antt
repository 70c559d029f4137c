-- How large the rates of rounds and the weights of walks can be. Assumes nothing.
use Rattle.std.specs.Prelude.{ℕ, ◌*◌, ◌≤◌}
use Rattle.limits.specs.Numbers.{most_ports, most_hours, most_cost}
use Rattle.rows.specs.Rows.{Row}
use Rattle.rows.specs.Kinds.{Kind}

-- the rate is small enough to be that of a round
pub record SmallRate (k : Kind) (c : Row) (t : ℕ) : Type 0 where
  pub small_cost : k.size c ≤ most_ports * most_cost
  pub few_hours : t ≤ most_ports * most_hours

-- the weight of one leg against such a rate
abbrev pub most_leg_weight : ℕ
most_leg_weight = 2 * (most_ports * (most_hours * most_cost))

-- the weight of a walk of no more legs than there are ports
abbrev pub most_weight : ℕ
most_weight = most_ports * most_leg_weight
