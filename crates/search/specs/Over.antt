-- Entries that break a limit. Assumes nothing.
use Rattle.std.specs.Prelude.{◌≡◌, ℕ, Bool, true, false}
use Rattle.charts.specs.Meaning.{Meaning, Shown, blank, leg, over, shown_at}

abbrev pub is_over : Shown → Bool
is_over blank = false
is_over (leg f) = false
is_over over = true

-- some entry of the chart is over
abbrev pub SomeOver : Meaning → Type 0
SomeOver m = (n : ℕ) × (shown_at m n ≡ over)
