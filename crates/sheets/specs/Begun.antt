-- The numbers of a sheet that is written or read, line after line, and why a line is refused. Assumes nothing.
use Rattle.std.specs.Prelude.{◌≡◌, ℕ, ◌+◌, cond, ◌&&◌, Some, None, Ok, Err, Option, Result, nat_le, nat_lt}
use Rattle.limits.specs.Numbers.{most_ports, most_legs}
use Rattle.limits.specs.Refusals.{or_refusal}
use Rattle.limits.specs.declared.refusal.Refusal.{Refusal}
use Rattle.limits.specs.declared.refusal.Refusal.TheVariants.{Number, Length}
use Rattle.rows.specs.Rows.{Row, zero_row, sum}
use Rattle.rows.specs.Kinds.{Kind}
use Rattle.charts.specs.Limits.{port_count_refusal, leg_refusal}
use Rattle.sheets.specs.declared.form.Form.{Form}
use Rattle.sheets.specs.declared.tally.Tally.{Tally}
use Rattle.sheets.specs.declared.sheet.BegunSheet.{BegunSheet}
use Rattle.sheets.specs.declared.sheet.ClosedSheet.{ClosedSheet}
use Rattle.sheets.specs.Places.{row_of}
use Rattle.sheets.specs.Form.{Numbered, head_length, leg_length, end_length}
use Rattle.sheets.specs.Proper.{least_after}

-- the numbers of a begun sheet
pub record Begun : Type 0 where
  pub form : Form
  pub ports : ℕ
  -- the place after the lines so far
  pub end : ℕ
  -- how many leg lines there are
  pub legs : ℕ
  -- the lowest number that the next leg may have
  pub least : ℕ
  pub hours : ℕ
  pub cost : Row

abbrev pub tallied : Tally → Begun
tallied t = record { form = t.form; ports = t.ports; end = t.end; legs = t.legs; least = t.least; hours = t.hours; cost = row_of t.cost }

abbrev pub begun : {K : Type 0} → BegunSheet K → Begun
begun b = tallied b.tally

-- the answer of a beginning, with the numbers of its sheet
abbrev pub begun_answer : {K : Type 0} → Result (BegunSheet K) Refusal → Result Begun Refusal
begun_answer (Ok b) = Ok (begun b)
begun_answer (Err e) = Err e

-- a sheet of its first line
abbrev pub opened : Form → ℕ → Begun
opened form ports = record { form = form; ports = ports; end = head_length; legs = 0; least = 0; hours = 0; cost = zero_row }

-- a sheet with one leg line more, of n places, for a leg of this number, these hours and this cost
abbrev pub counted : ℕ → Begun → ℕ → ℕ → Row → Begun
counted n b number hours cost = record {
  form = b.form;
  ports = b.ports;
  end = b.end + leg_length n;
  legs = b.legs + 1;
  least = least_after b.form number;
  hours = b.hours + hours;
  cost = sum b.cost cost;
}

abbrev pub with_leg : ℕ → Begun → Numbered → Begun
with_leg n b l = counted n b l.number l.leg.hours l.leg.cost

-- so many bytes do not fit a buffer of this length
abbrev pub room_refusal : ℕ → ℕ → Option Refusal
room_refusal needed len = cond (nat_le needed len) None (Some Length)

abbrev pub begin_refusal : ℕ → ℕ → ℕ → Option Refusal
begin_refusal n ports len = or_refusal (port_count_refusal most_ports ports) (room_refusal (head_length + end_length n) len)

-- a number that is not below `most`, or too low, or one leg line too many
abbrev pub number_refusal_below : ℕ → Begun → ℕ → Option Refusal
number_refusal_below most b number = cond (nat_lt number most && nat_le b.least number && nat_lt b.legs most_legs) None (Some Number)

-- a number at or past the limit, or too low, or one leg line too many
abbrev pub number_refusal : Begun → ℕ → Option Refusal
number_refusal b number = number_refusal_below most_legs b number

abbrev pub line_refusal : Kind → Begun → Numbered → ℕ → Option Refusal
line_refusal k b l len =
    or_refusal (number_refusal b l.number)
    (or_refusal (leg_refusal k b.ports l.leg) (room_refusal (b.end + leg_length k.places + end_length k.places) len))

-- how long a sheet of n places is with its end line
abbrev pub closed_length : ℕ → Begun → ℕ
closed_length n b = b.end + end_length n

abbrev pub close_refusal : ℕ → Begun → ℕ → Option Refusal
close_refusal n b len = room_refusal (closed_length n b) len

-- what closing makes of a sheet of n places: the closed sheet tells its length, and else the sheet is begun as before
abbrev pub Closes : {K : Type 0} → ℕ → BegunSheet K → ℕ → Result ClosedSheet (BegunSheet K) → Type 0
Closes n b len (Ok s) = (close_refusal n (begun b) len ≡ None) × (s.length ≡ closed_length n (begun b))
Closes n b len (Err s) = (close_refusal n (begun b) len ≡ Some Length) × (s ≡ b)
