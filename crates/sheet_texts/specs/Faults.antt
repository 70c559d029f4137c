-- Which texts are chart sheets that can be read, and at which line any other text is at fault, and why. Assumes nothing.
use Rattle.std.specs.Prelude.{◌≡◌, ℕ, ◌+◌, ◌<◌, ◌≤◌, min, List, [], ◌++◌, length, pos, Some, Option, ◌≢◌}
use Rattle.std.specs.List.{AllByRecursion}
use Rattle.limits.specs.Numbers.{most_ports}
use Rattle.limits.specs.Refusals.{or_refusal}
use Rattle.limits.specs.declared.refusal.Refusal.{Refusal}
use Rattle.limits.specs.declared.refusal.Refusal.TheVariants.{Malformed}
use Rattle.rows.specs.Rows.{place, Narrow}
use Rattle.rows.specs.Kinds.{Kind}
use Rattle.charts.specs.Limits.{port_count_refusal, leg_refusal}
use Rattle.columns.specs.Columns.{Fits}
use Rattle.sheets.specs.declared.form.Form.TheVariants.{Chart}
use Rattle.sheets.specs.Form.{number_width, hours_width, cost_width, Numbered, Sheet, head_line, leg_line, leg_lines, end_line, sheet_bytes, summed_hours, summed_cost}
use Rattle.sheets.specs.Proper.{Proper}
use Rattle.sheets.specs.Begun.{Begun, number_refusal_below}
use Rattle.sheets.specs.Writing.{numbers_of}

-- the limits that a caller sets: so many ports at most, and numbers below so many
pub record Limits : Type 0 where
  pub ports : ℕ
  pub numbers : ℕ

-- a chart sheet within its own limits and the caller's
pub record Readable (k : Kind) (m : Limits) (s : Sheet) : Type 0 where
  pub chart : s.form ≡ Chart
  pub proper : Proper k s
  pub few_ports : s.ports ≤ m.ports
  pub numbers_below : AllByRecursion (λ (l : Numbered). l.number < m.numbers) s.legs

-- every number of a leg line of n places fits its column
pub record LegFits (n : ℕ) (l : Numbered) : Type 0 where
  pub number_fits : Fits number_width (pos l.number)
  pub from_fits : Fits number_width (pos l.leg.from)
  pub to_fits : Fits number_width (pos l.leg.to)
  pub hours_fits : Fits hours_width (pos l.leg.hours)
  pub cost_fits : (i : ℕ) → i < n → Fits cost_width (place l.leg.cost i)

-- the first line of a sheet and its leg lines
abbrev pub front_bytes : ℕ → Sheet → List ℕ
front_bytes n s = head_line n s.form s.ports ++ leg_lines n s.legs

-- the end line of a sheet
abbrev pub last_line : ℕ → Sheet → List ℕ
last_line n s = end_line n (length s.legs) (summed_hours s.legs) (summed_cost s.legs)

-- why a leg cannot come after lines of the numbers b, where leg numbers are below `most`
abbrev pub next_refusal : Kind → ℕ → Begun → Numbered → Option Refusal
next_refusal k most b l = or_refusal (number_refusal_below most b l.number) (leg_refusal k b.ports l.leg)

-- why a leg cannot come after those of a sheet
abbrev pub next_leg_refusal : Kind → Limits → Sheet → Numbered → Option Refusal
next_leg_refusal k m s l = next_refusal k m.numbers (numbers_of k.places s) l

-- the first line of a text that is at fault, and why: all lines before it are those of a sheet that can be read
pub data FaultAt (k : Kind) (m : Limits) (text : List ℕ) : Refusal → ℕ → Type 0 where
  -- it does not begin with the first line of a chart sheet
  no_head : ((p : ℕ) (rest : List ℕ) → Fits number_width (pos p) → text ≢ head_line k.places Chart p ++ rest) → FaultAt k m text Malformed 1
  ports_refused : (p : ℕ) (rest : List ℕ) (e : Refusal) → Fits number_width (pos p) → text ≡ head_line k.places Chart p ++ rest
      → port_count_refusal (min m.ports most_ports) p ≡ Some e → FaultAt k m text e 1
  -- what follows begins neither with a leg line nor with the end line of the legs before it
  no_line : (s : Sheet) (rest : List ℕ) → Readable k m s → text ≡ front_bytes k.places s ++ rest
      → ((l : Numbered) (more : List ℕ) → LegFits k.places l → rest ≢ leg_line k.places l ++ more)
      → ((more : List ℕ) → rest ≢ last_line k.places s ++ more) → FaultAt k m text Malformed (length s.legs + 2)
  leg_refused : (s : Sheet) (l : Numbered) (rest : List ℕ) (e : Refusal) → Readable k m s → LegFits k.places l → Narrow k.places l.leg.cost
      → text ≡ front_bytes k.places s ++ (leg_line k.places l ++ rest) → next_leg_refusal k m s l ≡ Some e → FaultAt k m text e (length s.legs + 2)
  -- text is left over after the end line
  left_over : (s : Sheet) (rest : List ℕ) → Readable k m s → text ≡ sheet_bytes k.places s ++ rest → (rest ≢ [])
      → FaultAt k m text Malformed (length s.legs + 3)
