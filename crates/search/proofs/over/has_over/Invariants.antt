use Rattle.std.proofs.Common.{◌≡◌, ℕ, ◌<◌, false}
use Rattle.charts.specs.Meaning.{shown_at}
use Rattle.search.specs.Over.{is_over}
use Rattle.search.proofs.over.has_over.Given as goal

abbrev pub invariant-loop-n : goal.invariant-loop-n
invariant-loop-n g l = (i : ℕ) → i < l.n → is_over (shown_at (g.C.Chart.meaning l.chart) i) ≡ false
