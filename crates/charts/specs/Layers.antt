-- Charts that stand on another: what each leg becomes, and blank and over stay as they are. Assumes nothing.
use Rattle.std.specs.Prelude.{ℕ, ◌+◌, Bool, true, false, cond, ◌||◌, List, map, Some, None, Option, slice_index, slice_index_or}
use Rattle.rows.specs.Rows.{Row, sum, times}
use Rattle.rows.specs.Kinds.{Kind}
use Rattle.charts.specs.Meaning.{Figures, Shown, blank, leg, over, Meaning, nothing}
use Rattle.charts.specs.Limits.{limited}
use Rattle.charts.specs.Reading.{figures_of}
use Rattle.charts.specs.declared.leg.Leg.{Leg}

-- a leg that a layer passes on, or nothing where it makes the entry blank
abbrev pub passed_on : {K : Type 0} → (K → Row) → Option (Leg K) → Option Figures
passed_on row None = None
passed_on row (Some l) = Some (figures_of row l)

-- what is passed on shows under the limits
abbrev pub passed_shown : Kind → ℕ → Option Figures → Shown
passed_shown k p None = blank
passed_shown k p (Some f) = limited k p f

module _ (k : Kind) (becomes : Figures → Option Figures) where
  abbrev pub entry_becomes : ℕ → Shown → Shown
  entry_becomes p blank = blank
  entry_becomes p (leg f) = passed_shown k p (becomes f)
  entry_becomes p over = over

  -- where the layer's figures are refused it shows one port and no entries, whatever stands beneath
  abbrev pub layered : Bool → Meaning → Meaning
  layered true m = record { ports = m.ports; entries = map (entry_becomes m.ports) m.entries }
  layered false m = nothing

-- stays: the hours with the stay of the port that the leg reaches
abbrev pub with_stay : List ℕ → Figures → Option Figures
with_stay stays f = Some (record { from = f.from; to = f.to; hours = f.hours + slice_index stays f.to; cost = f.cost })

-- closures: no leg that leaves or reaches a closed port
abbrev pub unless_closed : List Bool → Figures → Option Figures
unless_closed closed f = cond (slice_index_or closed f.from false || slice_index_or closed f.to false) None (Some f)

-- hire: the cost with the hours times the hire
abbrev pub with_hire : Row → Figures → Option Figures
with_hire hire f = Some (record { from = f.from; to = f.to; hours = f.hours; cost = sum f.cost (times f.hours hire) })
