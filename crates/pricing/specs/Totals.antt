-- What legs cost and take together. Assumes nothing.
use Rattle.std.specs.Prelude.{◌≡◌, ℕ, ◌*◌, ◌≤◌, List, length, take}
use Rattle.limits.specs.Numbers.{most_legs, most_hours, most_cost}
use Rattle.rows.specs.Rows.{Row}
use Rattle.rows.specs.Kinds.{Kind}
use Rattle.charts.specs.Meaning.{Meaning}
use Rattle.rounds.specs.Rates.{cost_of, hours_of}

-- the cost c in t hours is that of the legs of these numbers
pub record Totals {K : Type 0} (row : K → Row) (m : Meaning) (ns : List ℕ) (c : K) (t : ℕ) : Type 0 where
  pub cost : row c ≡ cost_of m ns
  pub hours : t ≡ hours_of m ns

-- the first i legs of a list are summed, and the sum is as small as so many legs make it
pub record Summed {K : Type 0} (k : Kind) (row : K → Row) (m : Meaning) (ns : List ℕ) (i : ℕ) (c : K) (t : ℕ) : Type 0 where
  pub totals : Totals row m (take i ns) c t
  pub small : k.size (row c) ≤ i * most_cost
  pub few : t ≤ i * most_hours

-- the same, of a list that is no longer than a chart
abbrev pub SummedIfFew : {K : Type 0} → Kind → (K → Row) → Meaning → List ℕ → ℕ → K → ℕ → Type 0
SummedIfFew k row m ns i c t = length ns ≤ most_legs → Summed k row m ns i c t
