-- How long each line is where its numbers fit. Assumes nothing.
use Rattle.std.proofs.Common.{◌≡◌, ℕ, ◌*◌, ◌<◌, ◌≤◌, length, arith}
use Rattle.std.proofs.lemmas.List.{length-append}
use Rattle.limits.specs.Numbers.{most_ports, most_legs, most_hours, most_cost, most_places}
use Rattle.rows.specs.Rows.{Row}
use Rattle.rows.specs.Kinds.{Kind}
use Rattle.sheets.specs.declared.form.Form.{Form}
use Rattle.sheets.specs.Places.{largest}
use Rattle.sheets.specs.Form.{number_width, hours_width, cost_width, summed_hours_width, summed_cost_width, Numbered, head_line, leg_line, end_line, head_length, leg_length, end_length}
use Rattle.sheets.specs.Proper.{ProperLeg}
use Rattle.sheets.proofs.Writing.{length_unsigned, length_places}

pub length_head : (n : ℕ) (form : Form) (ports : ℕ) → ports ≤ most_ports → n ≤ most_places → length (head_line n form ports) ≡ head_length
unfolding head_line
length_head n form ports few narrow =
    simp length-append (omega (arith, length_unsigned number_width ports (omega arith) (omega arith), length_unsigned number_width n (omega arith) (omega arith)))

pub length_leg : (n : ℕ) (l : Numbered) → l.number < most_legs → l.leg.from < most_ports → l.leg.to < most_ports → l.leg.hours ≤ most_hours
    → largest l.leg.cost ≤ most_cost → length (leg_line n l) ≡ leg_length n
unfolding leg_line
length_leg n l number from to hours small =
    simp length-append
    (omega (
      arith,
      length_unsigned number_width l.number (omega arith) (omega arith),
      length_unsigned number_width l.leg.from (omega arith) (omega arith),
      length_unsigned number_width l.leg.to (omega arith) (omega arith),
      length_unsigned hours_width l.leg.hours (omega arith) (omega arith),
      length_places cost_width n l.leg.cost (omega arith) (omega arith),
    ))

pub length_end : (n legs hours : ℕ) (cost : Row) → legs ≤ most_legs → hours ≤ legs * most_hours → largest cost ≤ legs * most_cost
    → length (end_line n legs hours cost) ≡ end_length n
unfolding end_line
length_end n legs hours cost few timed priced =
    simp length-append
    (omega (arith, length_unsigned number_width legs (omega arith) (omega arith), length_unsigned summed_hours_width hours (omega arith) (omega arith), length_places summed_cost_width n cost (omega arith) (omega arith)))

pub length_proper_leg : (k : Kind) (p least : ℕ) (l : Numbered) → p ≤ most_ports → ProperLeg k p least l → length (leg_line k.places l) ≡ leg_length k.places
length_proper_leg k p least l few proper =
    length_leg k.places l proper.below_limit (omega (arith, proper.allowed.from_port)) (omega (arith, proper.allowed.to_port)) proper.allowed.few_hours proper.small
