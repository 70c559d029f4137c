-- The legs of a chart, by their numbers. Assumes nothing.
use Rattle.std.specs.Prelude.{◌≡◌, ℕ, ◌<◌, Bool, true, false}
use Rattle.rows.specs.Rows.{zero_row}
use Rattle.charts.specs.Meaning.{Meaning, Shown, blank, leg, over, Figures, shown_at}

-- the entry is a leg
abbrev pub is_leg : Shown → Bool
is_leg blank = false
is_leg (leg f) = true
is_leg over = false

-- the figures of what is no leg
abbrev pub no_figures : Figures
no_figures = record { from = 0; to = 0; hours = 0; cost = zero_row }

-- the figures of an entry
abbrev pub shown_figures : Shown → Figures
shown_figures blank = no_figures
shown_figures (leg f) = f
shown_figures over = no_figures

-- the number is that of a leg on the chart
abbrev pub there : Meaning → ℕ → Bool
there m n = is_leg (shown_at m n)

-- the figures of the leg of a number
abbrev pub figures_at : Meaning → ℕ → Figures
figures_at m n = shown_figures (shown_at m n)

-- the port that the leg leaves
abbrev pub leaves : Meaning → ℕ → ℕ
leaves m n = (figures_at m n).from

-- the port that the leg reaches
abbrev pub reaches : Meaning → ℕ → ℕ
reaches m n = (figures_at m n).to

-- every leg joins two ports of the chart
abbrev pub LegsJoinPorts : Meaning → Type 0
LegsJoinPorts m = (n : ℕ) → there m n ≡ true → (leaves m n < m.ports) × (reaches m n < m.ports)
