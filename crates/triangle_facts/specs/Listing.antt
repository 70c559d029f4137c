-- How a chart in dollars is told. Assumes nothing.
use lib.Chars.{codes}
use Rattle.std.specs.Prelude.{ℕ, zero, suc, List, [], length, ◌++◌}
use Rattle.std.specs.Fmt.{decimal, signed_decimal}
use Rattle.charts.specs.Meaning.{Figures, Shown, blank, leg, over, Meaning, shown_at}

-- the ports of a leg, its hours and its dollars
abbrev pub figures_text : Figures → List ℕ
figures_text f =
    codes "from " ++
    (decimal f.from ++ (codes " to " ++ (decimal f.to ++ (codes ", " ++ (decimal f.hours ++ (codes " hours, " ++ (signed_decimal f.cost.first ++ codes " dollars")))))))

abbrev pub shown_text : Shown → List ℕ
shown_text blank = codes "blank"
shown_text (leg f) = figures_text f
shown_text over = codes "over"

-- a line: a number and what stands under it
abbrev pub line_text : ℕ → Shown → List ℕ
line_text n s = codes "  " ++ (decimal n ++ (codes ": " ++ (shown_text s ++ codes "\n")))

-- the lines of the numbers below n, from 0 on
abbrev pub lines_below : Meaning → ℕ → List ℕ
lines_below m zero = []
lines_below m (suc n) = lines_below m n ++ line_text n (shown_at m n)

-- how many ports and entries there are
abbrev pub counts_text : Meaning → List ℕ
counts_text m = codes "  " ++ (decimal m.ports ++ (codes " ports, " ++ (decimal (length m.entries) ++ codes " entries\n")))

-- the counts, and a line for each number below the count of entries
abbrev pub listing_text : Meaning → List ℕ
listing_text m = counts_text m ++ lines_below m (length m.entries)
