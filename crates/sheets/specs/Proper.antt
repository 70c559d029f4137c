-- The sheets that are within the limits. Assumes nothing.
use Rattle.std.specs.Prelude.{ℕ, ◌+◌, ◌<◌, ◌≤◌, cond, List, [], ◌∷◌, length}
use Rattle.limits.specs.Numbers.{most_ports, most_legs, most_cost}
use Rattle.rows.specs.Rows.{Narrow}
use Rattle.rows.specs.Kinds.{Kind}
use Rattle.charts.specs.Meaning.{Allowed}
use Rattle.sheets.specs.declared.form.Form.{Form}
use Rattle.sheets.specs.Places.{largest}
use Rattle.sheets.specs.Form.{Numbered, Sheet, rises}

-- the lowest number that a leg may have after one of this number
abbrev pub least_after : Form → ℕ → ℕ
least_after form number = cond (rises form) (number + 1) 0

-- a leg whose number may be as low as `least`, on a sheet of p ports
pub record ProperLeg (k : Kind) (p least : ℕ) (l : Numbered) : Type 0 where
  pub from_least : least ≤ l.number
  pub below_limit : l.number < most_legs
  pub allowed : Allowed k p l.leg
  -- the places of its cost show all of it
  pub narrow : Narrow k.places l.leg.cost
  pub small : largest l.leg.cost ≤ most_cost

abbrev pub ProperLegs : Kind → Form → ℕ → ℕ → List Numbered → Type 0
ProperLegs k form p least [] = Unit {0}
ProperLegs k form p least (l ∷ ls) = ProperLeg k p least l × ProperLegs k form p (least_after form l.number) ls

pub record Proper (k : Kind) (s : Sheet) : Type 0 where
  pub some_port : 1 ≤ s.ports
  pub few_ports : s.ports ≤ most_ports
  pub few_legs : length s.legs ≤ most_legs
  pub legs_proper : ProperLegs k s.form s.ports 0 s.legs
