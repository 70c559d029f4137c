-- A chart bare of its hours and costs: each leg takes one hour at one cost, the same for all. Assumes nothing.
use Rattle.std.specs.Prelude.{Bool, cond, ◌&&◌, map, negsuc, nat_lt}
use Rattle.rows.specs.Rows.{Row, one_place}
use Rattle.charts.specs.Meaning.{Meaning, Shown, blank, leg, over, Figures}

-- one dollar less than none
abbrev pub less_one : Row
less_one = one_place (negsuc 0)

-- a leg between the same ports, of one hour at a cost
abbrev pub bare_leg : Row → Figures → Figures
bare_leg cost f = record { from = f.from; to = f.to; hours = 1; cost = cost }

-- what an entry becomes: with idle, a leg of some hours becomes blank
abbrev pub bare_entry : Bool → Row → Shown → Shown
bare_entry idle cost blank = blank
bare_entry idle cost (leg f) = cond (idle && nat_lt 0 f.hours) blank (leg (bare_leg cost f))
bare_entry idle cost over = over

-- every leg at a cost in one hour; with idle, only the legs of no hours stay
abbrev pub bare : Bool → Row → Meaning → Meaning
bare idle cost m = record { ports = m.ports; entries = map (bare_entry idle cost) m.entries }
