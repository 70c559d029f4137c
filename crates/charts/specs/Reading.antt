-- What the values of the code mean. Assumes nothing.
use Rattle.rows.specs.Rows.{Row}
use Rattle.charts.specs.Meaning.{Figures, Shown, blank, leg, over}
use Rattle.charts.specs.declared.leg.Leg.{Leg}
use Rattle.charts.specs.declared.leg.Entry.{Entry}
use Rattle.charts.specs.declared.leg.Entry.TheVariants.{Blank, Leg as LegEntry, Over}

abbrev pub figures_of : {K : Type 0} → (K → Row) → Leg K → Figures
figures_of row l = record { from = l.from; to = l.to; hours = l.hours; cost = row l.cost }

abbrev pub entry_shown : {K : Type 0} → (K → Row) → Entry K → Shown
entry_shown row Blank = blank
entry_shown row (LegEntry l) = leg (figures_of row l)
entry_shown row Over = over
