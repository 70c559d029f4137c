-- How legs and entries are told, where their costs have a text. Assumes nothing.
use lib.Chars.{codes}
use Rattle.std.specs.Prelude.{ℕ, List, ◌++◌, Some, Option}
use Rattle.std.specs.Fmt.{decimal, ◌++?◌}
use Rattle.charts.specs.declared.leg.Leg.{Leg}
use Rattle.charts.specs.declared.leg.Entry.{Entry}
use Rattle.charts.specs.declared.leg.Entry.TheVariants.{Blank, Leg as LegEntry, Over}

module _ {K : Type 0} (cost_text : K → Option (List ℕ)) where
  abbrev pub leg_text : Leg K → Option (List ℕ)
  leg_text l = Some (codes "from " ++ (decimal l.from ++ (codes " to " ++ (decimal l.to ++ (codes ", " ++ (decimal l.hours ++ codes " hours, ")))))) ++? cost_text l.cost

  abbrev pub entry_text : Entry K → Option (List ℕ)
  entry_text Blank = Some (codes "blank")
  entry_text (LegEntry l) = leg_text l
  entry_text Over = Some (codes "over")
