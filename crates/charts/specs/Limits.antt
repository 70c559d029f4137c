-- Which limit figures break first, if any. Assumes nothing.
use Rattle.std.specs.Prelude.{ℕ, cond, ◌&&◌, Some, None, Option, nat_le, nat_lt}
use Rattle.limits.specs.Numbers.{most_hours, most_cost}
use Rattle.limits.specs.Refusals.{if_refused}
use Rattle.limits.specs.declared.refusal.Refusal.{Refusal}
use Rattle.limits.specs.declared.refusal.Refusal.TheVariants.{Port, Cost, Hours}
use Rattle.rows.specs.Rows.{Row}
use Rattle.rows.specs.Kinds.{Kind}
use Rattle.charts.specs.Meaning.{Figures, Shown, leg, over}

-- a port count from 1 to so many
abbrev pub port_count_refusal : ℕ → ℕ → Option Refusal
port_count_refusal most p = cond (nat_le 1 p && nat_le p most) None (Some Port)

-- the cost of a leg, of a grid or of a hire
abbrev pub cost_refusal : Kind → Row → Option Refusal
cost_refusal k c = cond (nat_le (k.size c) most_cost) None (Some Cost)

-- the hours and the cost of a leg
abbrev pub price_refusal : Kind → ℕ → Row → Option Refusal
price_refusal k h c = cond (nat_le h most_hours) (cost_refusal k c) (Some Hours)

-- a leg on a chart of p ports
abbrev pub leg_refusal : Kind → ℕ → Figures → Option Refusal
leg_refusal k p f = cond (nat_lt f.from p && nat_lt f.to p) (price_refusal k f.hours f.cost) (Some Port)

-- the leg, or over where it breaks a limit
abbrev pub limited : Kind → ℕ → Figures → Shown
limited k p f = if_refused (leg_refusal k p f) over (leg f)
