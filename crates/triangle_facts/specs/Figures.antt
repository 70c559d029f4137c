-- What the triangle and the charts made from it come to, as one statement. Assumes nothing.
use Rattle.std.specs.Prelude.{◌≡◌, ℕ, Bool, true, false, List, [], ◌∷◌, length, None}
use Rattle.limits.specs.Numbers.{most_ports}
use Rattle.rows.specs.Rows.{Row}
use Rattle.rows.specs.Kinds.{Kind}
use Rattle.rows.specs.Orders.{by_dollars, by_dollars_then_tonnes}
use Rattle.charts.specs.Meaning.{Meaning}
use Rattle.charts.specs.Limits.{cost_refusal}
use Rattle.charts.specs.Stays.{stays_refusal}
use Rattle.rounds.specs.Walks.{ClosedWalk}
use Rattle.rounds.specs.Rounds.{Round}
use Rattle.rounds.specs.Rates.{cost_of, hours_of, walk_cheaper, IdleRound, Best}
use Rattle.rounds.specs.Marks.{Mark}
use Rattle.rounds.specs.Standing.{kept, still_there}
use Rattle.triangle_facts.specs.Triangle.{
  dollars,
  minus,
  and_tonnes,
  triangle_at,
  triangle,
  triangle_with_tonnes,
  short_round,
  long_round,
  both_rounds,
  only_port_2,
  stay_in_port_0,
  port_2_closed,
  stayed,
  hired,
  no_way_back,
  idle_at_port_1,
}

-- the legs cost c in t hours together
pub record RateIs (m : Meaning) (ns : List ℕ) (c : Row) (t : ℕ) : Type 0 where
  pub cost : cost_of m ns ≡ c
  pub hours : hours_of m ns ≡ t

-- a round at cost c in t hours
pub record RoundAt (m : Meaning) (ns : List ℕ) (c : Row) (t : ℕ) : Type 0 where
  pub round : Round m ns
  pub rate : RateIs m ns c t

-- a round at cost c in t hours, and no closed walk is cheaper
pub record BestRound (k : Kind) (m : Meaning) (ns : List ℕ) (c : Row) (t : ℕ) : Type 0 where
  pub round : RoundAt m ns c t
  pub best : Best k m c t

-- the first list of legs is cheaper than the second
abbrev pub cheaper_than : Kind → Meaning → List ℕ → List ℕ → Bool
cheaper_than k m ns ms = walk_cheaper k m ns (cost_of m ms) (hours_of m ms)

pub record TriangleFigures : Type 0 where
  -- the round 0, 2, 3 costs −2,400 dollars in 120 hours, and is the best
  pub best_round : BestRound by_dollars triangle long_round (minus 2400) 120
  -- against it port 0 has the mark 0
  pub mark_of_port_0 : Mark by_dollars triangle (minus 2400) 120 0 (dollars 0)
  -- against it port 1 has the mark −48,000
  pub mark_of_port_1 : Mark by_dollars triangle (minus 2400) 120 1 (minus 48000)
  -- against it port 2 has the mark −48,000
  pub mark_of_port_2 : Mark by_dollars triangle (minus 2400) 120 2 (minus 48000)
  -- 0, 1, 0, 2, 3 is a closed walk
  pub both_rounds_close : ClosedWalk triangle both_rounds
  -- that walk costs −3,300 dollars in 180 hours
  pub both_rounds_cost : RateIs triangle both_rounds (minus 3300) 180
  -- that walk is not cheaper than the round 0, 2, 3
  pub both_rounds_not_cheaper : cheaper_than by_dollars triangle both_rounds long_round ≡ false
  -- leg 1 at 0 dollars: the round 0, 2, 3, kept from before, is still there
  pub long_round_still_there : still_there (triangle_at (dollars 0)) (kept triangle long_round) ≡ true
  -- leg 1 at 0 dollars: the round 0, 2, 3 is the best still, at the same rate
  pub long_round_still_best : BestRound by_dollars (triangle_at (dollars 0)) long_round (minus 2400) 120
  -- leg 1 at −1 dollar: the round 0, 1 costs −1,201 dollars in 60 hours, and is the best
  pub short_round_best : BestRound by_dollars (triangle_at (minus 1)) short_round (minus 1201) 60
  -- leg 1 at −1 dollar: the round 0, 1 is cheaper than the round 0, 2, 3
  pub short_round_cheaper : cheaper_than by_dollars (triangle_at (minus 1)) short_round long_round ≡ true
  -- the closures speak of as many ports as a chart can have
  pub closures_for_each_port : length only_port_2 ≡ most_ports
  -- port 2 closed: the round 0, 1 costs −900 dollars in 60 hours, and is the best
  pub closed_round_best : BestRound by_dollars port_2_closed short_round (minus 900) 60
  -- the stays speak of as many ports as a chart can have
  pub stays_for_each_port : length stay_in_port_0 ≡ most_ports
  -- no stay is refused
  pub stays_accepted : stays_refusal stay_in_port_0 ≡ None
  -- a hire of 5 dollars an hour is not refused
  pub hire_accepted : cost_refusal by_dollars (dollars 5) ≡ None
  -- a stay of 10 hours in port 0: the round 0, 2, 3 costs −2,400 dollars in 130 hours
  pub stay_adds_hours : RoundAt (stayed triangle) long_round (minus 2400) 130
  -- the hire on top of the stay: −1,750 dollars in 130 hours
  pub hire_on_top : RoundAt (hired (stayed triangle)) long_round (minus 1750) 130
  -- the hire beneath the stay: −1,800 dollars in 130 hours
  pub hire_beneath : RoundAt (stayed (hired triangle)) long_round (minus 1800) 130
  -- with the legs 0 and 2 only there is no round
  pub no_round : (ns : List ℕ) → Round no_way_back ns → ⊥
  -- a leg 1 from port 1 to port 1 that takes no hours is an idle round
  pub idle_round : IdleRound idle_at_port_1 (1 ∷ [])
  -- leg 1 at 0 dollars, and the tonnes counted: the round 0, 1 costs −1,200 dollars and 60 tonnes in 60 hours
  pub short_with_tonnes : RoundAt triangle_with_tonnes short_round (and_tonnes (minus 1200) 60) 60
  -- the tonnes counted: the round 0, 2, 3 costs −2,400 dollars and 130 tonnes in 120 hours
  pub long_with_tonnes : RoundAt triangle_with_tonnes long_round (and_tonnes (minus 2400) 130) 120
  -- by dollars, then tonnes, the round 0, 1 is cheaper than the round 0, 2, 3
  pub short_cheaper_with_tonnes : cheaper_than by_dollars_then_tonnes triangle_with_tonnes short_round long_round ≡ true
