-- What is read of a text is what it was written from. Assumes nothing.
use Rattle.std.proofs.Common.{◌≡◌, ℕ, zero, suc, ◌<◌, ◌≤◌, List, [], ◌∷◌, ◌++◌, length, drop, replicate, None, Ok, Option, sym, refl, ap, ◌∙◌, subst, arith}
use Rattle.std.specs.List.{AllByRecursion}
use Rattle.std.proofs.lemmas.List.{append_assoc, drop_at, length-append}
use Rattle.limits.specs.Numbers.{most_ports, most_legs, most_places}
use Rattle.rows.specs.Rows.{Row}
use Rattle.rows.specs.Kinds.{Kind}
use Rattle.charts.specs.Meaning.{Figures}
use Rattle.charts.specs.declared.leg.Leg.{Leg}
use Rattle.sheets.specs.declared.form.Form.{Form}
use Rattle.sheets.specs.declared.form.Form.TheVariants.{Chart}
use Rattle.sheets.specs.Form.{Numbered, Sheet, head_line, leg_lines, sheet_bytes, head_length}
use Rattle.sheets.specs.Proper.{least_after, ProperLegs}
use Rattle.sheets.specs.Begun.{Begun}
use Rattle.sheets.proofs.Lengths.{length_head}
use Rattle.sheet_texts.specs.Faults.{Limits, Readable, last_line}
use Rattle.sheet_texts.proofs.Same.{proper_leg_fits}
use Rattle.sheet_texts.proofs.OneSheet.{one_sheet}
use Rattle.sheet_reader.specs.Reading.{Whole}
use Rattle.sheet_reader.specs.Tables.{table_figures, table_of, chart_sheet, Placeable, LegsNext, Reads}
use Rattle.sheet_reader.proofs.Listed.{legs_listed}

-- the legs of a sheet can all be put into a table that is long enough
placeable_legs : (k : Kind) (form : Form) (p least size : ℕ) (ls : List Numbered) → p ≤ most_ports → ProperLegs k form p least ls → AllByRecursion (λ (l : Numbered). l.number < size) ls → AllByRecursion (Placeable k size) ls
placeable_legs k form p least size [] few proper below = tt
placeable_legs k form p least size (l ∷ ls) few proper below =
    let allowed = proper.0.allowed in (
      record {
        fits = proper_leg_fits k p least l few proper.0;
        narrow = proper.0.narrow;
        allowed = record { from_port = omega (arith, allowed.from_port); to_port = omega (arith, allowed.to_port); few_hours = allowed.few_hours; small_cost = allowed.small_cost };
        below = below.0;
      },
      placeable_legs k form p (least_after form l.number) size ls few proper.1 below.1,
    )

-- a whole sheet is no shorter than its first line
pub head_long : (k : Kind) (m : Limits) (text : List ℕ) (b : Begun) → k.places ≤ most_places → Whole k m text b → head_length ≤ length text
unfolding sheet_bytes
head_long k m text b few w =
    let n : ℕ = k.places in
    let s : Sheet = w.sheet in
    let head : List ℕ = head_line n s.form s.ports in
    let lines : List ℕ = leg_lines n s.legs in
    omega (arith, ap length w.whole, length-append (head ++ lines) (last_line n s), length-append head lines, length_head n s.form s.ports w.readable.proper.few_ports few)

-- past the first line of a text come its leg lines
pub lines_next : (k : Kind) (m : Limits) (text : List ℕ) (b : Begun) → k.places ≤ most_places → (w : Whole k m text b) (size : ℕ) (rest : List ℕ) → m.numbers ≡ size → rest ≡ drop head_length text
    → LegsNext k size b.legs rest w.sheet.legs (last_line k.places w.sheet)
unfolding sheet_bytes
lines_next k m text b few w size rest same rest_is =
    let n : ℕ = k.places in
    let s : Sheet = w.sheet in
    let head : List ℕ = head_line n s.form s.ports in
    let below = subst (λ (j : ℕ). AllByRecursion (λ (l : Numbered). l.number < j) s.legs) same w.readable.numbers_below in
    record {
      placeable = placeable_legs k s.form s.ports 0 size s.legs w.readable.proper.few_ports w.readable.proper.legs_proper below;
      count = sym (ap (λ (x : Begun). x.legs) w.numbers);
      lines =
          rest_is ∙ ap (drop head_length) (w.whole ∙ append_assoc head (leg_lines n s.legs) (last_line n s))
          ∙ drop_at head (leg_lines n s.legs ++ last_line n s) head_length (length_head n s.form s.ports w.readable.proper.few_ports few);
    }

-- a blank table shows blanks
pub blank_figures : {K : Type 0} (row : K → Row) (size : ℕ) → table_figures row (replicate size None) ≡ replicate size None
blank_figures row zero = refl
blank_figures row (suc size) = ap (λ (t : List (Option Figures)). None ∷ t) (blank_figures row size)

module _ {K : Type 0} (k : Kind) (row : K → Row) (most : ℕ) (text : List ℕ) (table : List (Option (Leg K))) (few : k.places ≤ most_places) (fits : length table ≤ most_legs) where
  abbrev bounds : Limits
  bounds = record { ports = most; numbers = length table }

  pub read_all : (table' : List (Option (Leg K))) (b : Begun) (w : Whole k bounds text b) → table_figures row table' ≡ table_of (length table) w.sheet.legs → length table' ≡ length table
      → Reads k row most text table (Ok b.ports) table'
  read_all table' b w filled same =
      record {
        answered = (fits, subst (Readable k bounds) (sym its_own) w.readable, w.whole ∙ ap (sheet_bytes k.places) (sym its_own), same);
        read_back = λ s _ readable is.
            let one : w.sheet ≡ s = one_sheet k bounds w.sheet s few w.readable readable (sym w.whole ∙ is) in
            (ap Ok (ports ∙ ap (λ (x : Sheet). x.ports) one), filled ∙ ap (λ (x : Sheet). table_of (length table) x.legs) one);
      }
    where
      ports : b.ports ≡ w.sheet.ports
      ports = ap (λ (x : Begun). x.ports) w.numbers

      rising : ProperLegs k Chart w.sheet.ports 0 w.sheet.legs
      rising = subst (λ (form : Form). ProperLegs k form w.sheet.ports 0 w.sheet.legs) w.readable.chart w.readable.proper.legs_proper

      legs : (chart_sheet b.ports (table_figures row table')).legs ≡ w.sheet.legs
      legs = ap (λ (t : List (Option Figures)). (chart_sheet b.ports t).legs) filled ∙ legs_listed k w.sheet.ports (length table) w.sheet.legs rising w.readable.numbers_below

      its_own : chart_sheet b.ports (table_figures row table') ≡ w.sheet
      its_own =
          let form = sym w.readable.chart in
          λ i. record { form = form i; ports = ports i; legs = legs i }
