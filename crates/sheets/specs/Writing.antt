-- What each call on a sheet answers, and what it leaves of the sheet and in the buffer. Assumes nothing.
use Rattle.std.specs.Prelude.{◌≡◌, ℕ, ◌+◌, ◌*◌, min, List, [], ◌∷◌, ◌++◌, length, take, drop, replicate, None, Result}
use Rattle.limits.specs.Refusals.{if_refused, answer}
use Rattle.limits.specs.declared.refusal.Refusal.{Refusal}
use Rattle.rows.specs.Rows.{Row}
use Rattle.rows.specs.Kinds.{Kind}
use Rattle.charts.specs.Reading.{figures_of}
use Rattle.charts.specs.declared.leg.Leg.{Leg}
use Rattle.columns.specs.Put.{put}
use Rattle.sheets.specs.declared.form.Form.{Form}
use Rattle.sheets.specs.declared.sheet.BegunSheet.{BegunSheet}
use Rattle.sheets.specs.declared.sheet.ClosedSheet.{ClosedSheet}
use Rattle.sheets.specs.declared.numbered.NumberedLeg.{NumberedLeg}
use Rattle.sheets.specs.Form.{Numbered, Sheet, head_line, leg_line, leg_lines, end_line, sheet_bytes, summed_hours, summed_cost, head_length, leg_length}
use Rattle.sheets.specs.Proper.{least_after, Proper}
use Rattle.sheets.specs.Begun.{Begun, begun, opened, with_leg, begin_refusal, line_refusal, close_refusal, closed_length, Closes}

abbrev pub numbered : {K : Type 0} → (K → Row) → ℕ → Leg K → Numbered
numbered row number leg = record { number = number; leg = figures_of row leg }

abbrev pub numbered_of : {K : Type 0} → (K → Row) → NumberedLeg K → Numbered
numbered_of row l = numbered row l.number l.leg

-- a sheet with one leg more
abbrev pub with_line : Sheet → Numbered → Sheet
with_line s l = record { form = s.form; ports = s.ports; legs = s.legs ++ (l ∷ []) }

-- the lowest number that a leg may have after these
abbrev pub least_past : Form → ℕ → List Numbered → ℕ
least_past form least [] = least
least_past form least (l ∷ ls) = least_past form (least_after form l.number) ls

-- the numbers of a sheet of n places as far as it is written
abbrev pub numbers_of : ℕ → Sheet → Begun
numbers_of n s = record {
  form = s.form;
  ports = s.ports;
  end = head_length + length s.legs * leg_length n;
  legs = length s.legs;
  least = least_past s.form 0 s.legs;
  hours = summed_hours s.legs;
  cost = summed_cost s.legs;
}

-- a begun sheet is this one, and the front of a buffer has its first line and its leg lines
pub record Holds (k : Kind) (s : Sheet) (b : Begun) (out : List ℕ) : Type 0 where
  pub proper : Proper k s
  pub numbers : b ≡ numbers_of k.places s
  pub front : take b.end out ≡ head_line k.places s.form s.ports ++ leg_lines k.places s.legs

-- a sheet is begun in a buffer
pub record Begins (k : Kind) (form : Form) (ports : ℕ) (out : List ℕ) (r : Result Begun Refusal) (out' : List ℕ) : Type 0 where
  pub answered : r ≡ answer (begin_refusal k.places ports (length out)) (opened form ports)
  -- the first line at the front, all else as it was
  pub bytes : out' ≡ if_refused (begin_refusal k.places ports (length out)) out (put out 0 (head_line k.places form ports))
  pub holds : begin_refusal k.places ports (length out) ≡ None → Holds k (record { form = form; ports = ports; legs = [] }) (opened form ports) out'

-- a leg line is put after the lines so far
pub record Takes (k : Kind) (b : Begun) (l : Numbered) (out : List ℕ) (r : Result (Unit {0}) Refusal) (b' : Begun) (out' : List ℕ) : Type 0 where
  pub answered : r ≡ answer (line_refusal k b l (length out)) tt
  pub sheet : b' ≡ if_refused (line_refusal k b l (length out)) b (with_leg k.places b l)
  -- the line in its place, all else as it was
  pub bytes : out' ≡ if_refused (line_refusal k b l (length out)) out (put out b.end (leg_line k.places l))
  pub holds : (s : Sheet) → Holds k s b out → line_refusal k b l (length out) ≡ None → Holds k (with_line s l) b' out'

-- the end line is put after the lines so far
pub record Ends {K : Type 0} (k : Kind) (b : BegunSheet K) (out : List ℕ) (r : Result ClosedSheet (BegunSheet K)) (out' : List ℕ) : Type 0 where
  pub answered : Closes k.places b (length out) r
  -- the line in its place, all else as it was
  pub bytes : out' ≡ if_refused (close_refusal k.places (begun b) (length out)) out (put out (begun b).end (end_line k.places (begun b).legs (begun b).hours (begun b).cost))
  -- the front of the buffer is then the whole sheet
  pub whole : (s : Sheet) → Holds k s (begun b) out → close_refusal k.places (begun b) (length out) ≡ None
      → take (closed_length k.places (begun b)) out' ≡ sheet_bytes k.places s

-- zeros in place of the bytes up to `end` that there are
abbrev pub struck : ℕ → List ℕ → List ℕ
struck end out = replicate (min end (length out)) 0 ++ drop (min end (length out)) out
