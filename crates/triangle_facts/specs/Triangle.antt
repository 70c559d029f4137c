-- The triangle, a chart of three ports and four legs, and the charts made from it. Assumes nothing.
use Rattle.std.specs.Prelude.{ℕ, Bool, true, false, List, [], ◌∷◌, replicate, pos, neg_ℤ}
use Rattle.rows.specs.Rows.{Row, one_place, two_places}
use Rattle.rows.specs.Orders.{by_dollars}
use Rattle.charts.specs.Meaning.{Shown, blank, leg, Meaning, with_entry}
use Rattle.charts.specs.Layers.{layered, unless_closed, with_stay, with_hire}

-- so many dollars
abbrev pub dollars : ℕ → Row
dollars n = one_place (pos n)

-- so many dollars less than none
abbrev pub minus : ℕ → Row
minus n = one_place (neg_ℤ (pos n))

-- so many dollars and tonnes
abbrev pub and_tonnes : Row → ℕ → Row
and_tonnes c n = two_places c.first (pos n)

-- a leg from port u to port v in so many hours, at a cost
abbrev pub sails : ℕ → ℕ → ℕ → Row → Shown
sails u v hours c = leg (record { from = u; to = v; hours = hours; cost = c })

-- three ports and the legs 0 to 3, at these costs
abbrev pub three_ports : Row → Row → Row → Row → Meaning
three_ports c₀ c₁ c₂ c₃ = record {
  ports = 3;
  entries = sails 0 1 40 c₀ ∷ (sails 1 0 20 c₁ ∷ (sails 1 2 30 c₂ ∷ (sails 2 0 50 c₃ ∷ [])));
}

-- the triangle with leg 1 at some cost
abbrev pub triangle_at : Row → Meaning
triangle_at c = three_ports (minus 1200) c (minus 600) (minus 600)

-- the triangle: leg 1 costs 300 dollars
abbrev pub triangle : Meaning
triangle = triangle_at (dollars 300)

-- the triangle with leg 1 at 0 dollars, and the tonnes that each leg burns
abbrev pub triangle_with_tonnes : Meaning
triangle_with_tonnes = three_ports (and_tonnes (minus 1200) 40) (and_tonnes (dollars 0) 20) (and_tonnes (minus 600) 30) (and_tonnes (minus 600) 60)

-- out to port 1 and back
abbrev pub short_round : List ℕ
short_round = 0 ∷ (1 ∷ [])

-- out to port 1, on to port 2, and back
abbrev pub long_round : List ℕ
long_round = 0 ∷ (2 ∷ (3 ∷ []))

-- the one round after the other
abbrev pub both_rounds : List ℕ
both_rounds = 0 ∷ (1 ∷ (0 ∷ (2 ∷ (3 ∷ []))))

-- which of 256 ports are closed: port 2 and no other
abbrev pub only_port_2 : List Bool
only_port_2 = false ∷ (false ∷ (true ∷ replicate 253 false))

-- the hours of the stay in each of 256 ports: 10 in port 0, none elsewhere
abbrev pub stay_in_port_0 : List ℕ
stay_in_port_0 = 10 ∷ replicate 255 0

-- the triangle with port 2 closed
abbrev pub port_2_closed : Meaning
port_2_closed = layered by_dollars (unless_closed only_port_2) true triangle

-- a chart with the stay on top
abbrev pub stayed : Meaning → Meaning
stayed m = layered by_dollars (with_stay stay_in_port_0) true m

-- a chart with a hire of 5 dollars an hour on top
abbrev pub hired : Meaning → Meaning
hired m = layered by_dollars (with_hire (dollars 5)) true m

-- the triangle with the legs 0 and 2 only
abbrev pub no_way_back : Meaning
no_way_back = with_entry (with_entry triangle 1 blank) 3 blank

-- and with a leg 1 that stays at port 1 and takes no hours
abbrev pub idle_at_port_1 : Meaning
idle_at_port_1 = with_entry no_way_back 1 (sails 1 1 0 (dollars 0))
