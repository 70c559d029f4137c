-- The rounds 0, 1 and 0, 2, 3 of charts of three ports, with what they cost and take. Assumes nothing.
use Rattle.std.proofs.Common.{◌≡◌, ℕ, true, false, map, refl, lit<, lit≤, rules}
use Rattle.rows.specs.Rows.{Row, zero_row, sum, times}
use Rattle.rows.specs.Orders.{by_dollars, by_dollars_then_tonnes}
use Rattle.charts.specs.Meaning.{Meaning}
use Rattle.rounds.specs.Legs.{leaves}
use Rattle.rounds.specs.Lists.{each_once}
use Rattle.rounds.specs.Walks.{Walk, ClosedWalk}
use Rattle.rounds.specs.Rates.{cost_of, hours_of}
use Rattle.triangle_facts.specs.Triangle.{
  minus,
  and_tonnes,
  triangle_at,
  triangle,
  triangle_with_tonnes,
  short_round,
  long_round,
  both_rounds,
  port_2_closed,
  stayed,
  hired,
}
use Rattle.triangle_facts.specs.Figures.{RateIs, RoundAt, cheaper_than}

module _ (m : Meaning) (c : Row) (t : ℕ) where
  short_at : Walk m 0 short_round 0 → each_once (map (leaves m) short_round) ≡ true → cost_of m short_round ≡ c → hours_of m short_round ≡ t → RoundAt m short_round c t
  short_at back once cost hours = record {
    round = record { closed = record { port = 0; some = lit< tt; back = back }; once = once; lowest = (lit≤ tt, tt) };
    rate = record { cost = cost; hours = hours };
  }

  long_at : Walk m 0 long_round 0 → each_once (map (leaves m) long_round) ≡ true → cost_of m long_round ≡ c → hours_of m long_round ≡ t → RoundAt m long_round c t
  long_at back once cost hours = record {
    round = record { closed = record { port = 0; some = lit< tt; back = back }; once = once; lowest = (lit≤ tt, (lit≤ tt, tt)) };
    rate = record { cost = cost; hours = hours };
  }

pub long_round_at : (c : Row) → RoundAt (triangle_at c) long_round (minus 2400) 120
unfolding sum zero_row
long_round_at c = long_at _ _ _ (search rules) refl refl refl

pub short_round_at : RoundAt (triangle_at (minus 1)) short_round (minus 1201) 60
unfolding sum zero_row
short_round_at = short_at _ _ _ (search rules) refl refl refl

pub short_cheaper : cheaper_than by_dollars (triangle_at (minus 1)) short_round long_round ≡ true
unfolding sum zero_row times
short_cheaper = refl

pub both_close : ClosedWalk triangle both_rounds
both_close = record { port = 0; some = lit< tt; back = search rules }

pub both_rate : RateIs triangle both_rounds (minus 3300) 180
unfolding sum zero_row
both_rate = record { cost = refl; hours = refl }

pub both_not_cheaper : cheaper_than by_dollars triangle both_rounds long_round ≡ false
unfolding sum zero_row times
both_not_cheaper = refl

pub closed_short : RoundAt port_2_closed short_round (minus 900) 60
unfolding sum zero_row
closed_short = short_at _ _ _ (search rules) refl refl refl

pub stayed_long : RoundAt (stayed triangle) long_round (minus 2400) 130
unfolding sum zero_row
stayed_long = long_at _ _ _ (search rules) refl refl refl

pub hired_stayed_long : RoundAt (hired (stayed triangle)) long_round (minus 1750) 130
unfolding sum zero_row times
hired_stayed_long = long_at _ _ _ (search rules) refl refl refl

pub stayed_hired_long : RoundAt (stayed (hired triangle)) long_round (minus 1800) 130
unfolding sum zero_row times
stayed_hired_long = long_at _ _ _ (search rules) refl refl refl

pub tonnes_short : RoundAt triangle_with_tonnes short_round (and_tonnes (minus 1200) 60) 60
unfolding sum zero_row
tonnes_short = short_at _ _ _ (search rules) refl refl refl

pub tonnes_long : RoundAt triangle_with_tonnes long_round (and_tonnes (minus 2400) 130) 120
unfolding sum zero_row
tonnes_long = long_at _ _ _ (search rules) refl refl refl

pub tonnes_cheaper : cheaper_than by_dollars_then_tonnes triangle_with_tonnes short_round long_round ≡ true
unfolding sum zero_row times
tonnes_cheaper = refl
