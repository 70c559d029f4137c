-- The form of a sheet, to the byte: writer and reader have no other definition of it. Assumes nothing.
use Rattle.std.specs.Prelude.{ℕ, zero, suc, ◌+◌, ◌*◌, Bool, true, false, List, [], ◌∷◌, ◌++◌, length, pos}
use Rattle.rows.specs.Rows.{Row, zero_row, sum, place}
use Rattle.charts.specs.Meaning.{Figures}
use Rattle.columns.specs.Columns.{column}
use Rattle.sheets.specs.declared.form.Form.{Form}
use Rattle.sheets.specs.declared.form.Form.TheVariants.{Chart, Round}

-- the columns of a leg number, a port, and a count of ports, places or leg lines
abbrev pub number_width : ℕ
number_width = 5

abbrev pub hours_width : ℕ
hours_width = 6

-- each place of a leg's cost
abbrev pub cost_width : ℕ
cost_width = 11

abbrev pub summed_hours_width : ℕ
summed_hours_width = 10

-- each place of the summed cost
abbrev pub summed_cost_width : ℕ
summed_cost_width = 16

abbrev pub line_feed : ℕ
line_feed = 10

-- C and R
abbrev pub form_letter : Form → ℕ
form_letter Chart = 67
form_letter Round = 82

-- L
abbrev pub leg_letter : ℕ
leg_letter = 76

-- E
abbrev pub end_letter : ℕ
end_letter = 69

-- in this form each leg number is above the one before it
abbrev pub rises : Form → Bool
rises Chart = true
rises Round = false

-- a leg and its number
pub record Numbered : Type 0 where
  pub number : ℕ
  pub leg : Figures

-- a sheet: its form, the ports of its chart, and its legs in their order
pub record Sheet : Type 0 where
  pub form : Form
  pub ports : ℕ
  pub legs : List Numbered

-- the first n places of a row, each in a column of w
unfoldable pub place_columns : ℕ → ℕ → Row → List ℕ
place_columns w zero r = []
place_columns w (suc n) r = place_columns w n r ++ column w (place r n)

-- the first line of a sheet whose costs have n places
unfoldable pub head_line : ℕ → Form → ℕ → List ℕ
head_line n form ports = (form_letter form ∷ []) ++ column number_width (pos ports) ++ column number_width (pos n) ++ (line_feed ∷ [])

unfoldable pub leg_line : ℕ → Numbered → List ℕ
leg_line n l =
    (leg_letter ∷ []) ++ column number_width (pos l.number) ++ column number_width (pos l.leg.from) ++ column number_width (pos l.leg.to) ++
    column hours_width (pos l.leg.hours) ++ place_columns cost_width n l.leg.cost ++ (line_feed ∷ [])

-- the last line: how many leg lines there are, and the sums of their hours and costs
unfoldable pub end_line : ℕ → ℕ → ℕ → Row → List ℕ
end_line n legs hours cost =
    (end_letter ∷ []) ++ column number_width (pos legs) ++ column summed_hours_width (pos hours) ++ place_columns summed_cost_width n cost ++ (line_feed ∷ [])

abbrev pub summed_hours : List Numbered → ℕ
summed_hours [] = 0
summed_hours (l ∷ ls) = l.leg.hours + summed_hours ls

abbrev pub summed_cost : List Numbered → Row
summed_cost [] = zero_row
summed_cost (l ∷ ls) = sum l.leg.cost (summed_cost ls)

unfoldable pub leg_lines : ℕ → List Numbered → List ℕ
leg_lines n [] = []
leg_lines n (l ∷ ls) = leg_line n l ++ leg_lines n ls

-- the whole sheet: its first line, its leg lines and its last line
unfoldable pub sheet_bytes : ℕ → Sheet → List ℕ
sheet_bytes n s =
    head_line n s.form s.ports ++ leg_lines n s.legs ++ end_line n (length s.legs) (summed_hours s.legs) (summed_cost s.legs)

-- how long each line is where its numbers fit their columns
abbrev pub head_length : ℕ
head_length = 2 + 2 * number_width

abbrev pub leg_length : ℕ → ℕ
leg_length n = 2 + 3 * number_width + hours_width + cost_width * n

abbrev pub end_length : ℕ → ℕ
end_length n = 2 + number_width + summed_hours_width + summed_cost_width * n
