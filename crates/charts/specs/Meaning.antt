-- What a chart shows: its ports, and an entry under each number below its count. Assumes nothing.
use Rattle.std.specs.Prelude.{◌≡◌, ℕ, ◌<◌, ◌≤◌, List, [], length, slice_index_or, slice_set}
use Rattle.limits.specs.Numbers.{most_ports, most_legs, most_hours, most_cost}
use Rattle.rows.specs.Rows.{Row}
use Rattle.rows.specs.Kinds.{Kind}

-- the figures of a leg: the port that it leaves, the port that it reaches, its hours, and the row of its cost
pub record Figures : Type 0 where
  pub from : ℕ
  pub to : ℕ
  pub hours : ℕ
  pub cost : Row

-- an entry: blank, a leg, or over, which is what breaks a limit
pub data Shown : Type 0 where
  blank : Shown
  leg : Figures → Shown
  over : Shown

pub record Meaning : Type 0 where
  pub ports : ℕ
  pub entries : List Shown

-- what stands under a number; at and past the count it is blank
abbrev pub shown_at : Meaning → ℕ → Shown
shown_at m n = slice_index_or m.entries n blank

-- the chart with another entry under a number
abbrev pub with_entry : Meaning → ℕ → Shown → Meaning
with_entry m n s = record { ports = m.ports; entries = slice_set m.entries n s }

-- a leg keeps the limits on a chart of p ports
pub record Allowed (k : Kind) (p : ℕ) (f : Figures) : Type 0 where
  pub from_port : f.from < p
  pub to_port : f.to < p
  pub few_hours : f.hours ≤ most_hours
  pub small_cost : k.size f.cost ≤ most_cost

-- what every chart keeps: its ports and entries within their limits, and each leg too
pub record Within (k : Kind) (m : Meaning) : Type 0 where
  pub some_port : 1 ≤ m.ports
  pub few_ports : m.ports ≤ most_ports
  pub few_entries : length m.entries ≤ most_legs
  pub legs_allowed : (n : ℕ) (f : Figures) → shown_at m n ≡ leg f → Allowed k m.ports f

-- one port and no entries: what refused figures make
abbrev pub nothing : Meaning
nothing = record { ports = 1; entries = [] }
