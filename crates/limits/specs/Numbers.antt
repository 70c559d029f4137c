-- The limits of the rules. Assumes nothing.
use Rattle.std.specs.Prelude.{ℕ, ◌^◌}

-- the ports of a chart
abbrev pub most_ports : ℕ
most_ports = 256

-- the ports of a grid chart
abbrev pub most_grid_ports : ℕ
most_grid_ports = 64

-- the entries of a chart, and the leg lines of a sheet
abbrev pub most_legs : ℕ
most_legs = 4096

-- the hours of a leg, and the stay in a port
abbrev pub most_hours : ℕ
most_hours = 9999

-- the size of a leg's cost, and of a grid's or a hire cost
abbrev pub most_cost : ℕ
most_cost = 999999999

-- the places of a cost
abbrev pub most_places : ℕ
most_places = 4

-- arithmetic on costs is exact up to this size
abbrev pub exact_size : ℕ
exact_size = 2 ^ 62
