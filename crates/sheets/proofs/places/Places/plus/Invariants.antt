use Rattle.std.proofs.Common.{◌≡◌, ℕ, ◌<◌, ◌≤◌, length, get_or, pos, ◌+ℤ◌}
use Rattle.limits.specs.Numbers.{most_places}
use Rattle.rows.specs.Rows.{place}
use Rattle.sheets.specs.Places.{row_of}
use Rattle.sheets.proofs.places.Places.plus.Given as goal

abbrev pub invariant-loop-i : goal.invariant-loop-i
invariant-loop-i l = record {
  long : length l.number-items ≡ most_places;
  summed : (k : ℕ) → k < l.i → get_or l.number-items k (pos 0) ≡ place (row_of l.fn.self) k +ℤ place (row_of l.other) k;
  left : (k : ℕ) → l.i ≤ k → get_or l.number-items k (pos 0) ≡ place (row_of l.fn.self) k;
}
