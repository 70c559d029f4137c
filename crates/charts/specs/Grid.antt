-- What a grid of hours shows. Assumes nothing.
use Rattle.std.specs.Prelude.{ℕ, suc, ◌*◌, ◌/◌, ◌%◌, cond, List, [], ◌∷◌, length, take, Some, None, Option, ◌==◌}
use Rattle.limits.specs.Numbers.{most_grid_ports, most_legs}
use Rattle.limits.specs.Refusals.{or_refusal}
use Rattle.limits.specs.declared.refusal.Refusal.{Refusal}
use Rattle.limits.specs.declared.refusal.Refusal.TheVariants.{Length}
use Rattle.rows.specs.Rows.{Row}
use Rattle.rows.specs.Kinds.{Kind}
use Rattle.charts.specs.Meaning.{Shown, blank, Meaning}
use Rattle.charts.specs.Limits.{port_count_refusal, cost_refusal, limited}

-- why hours cannot open as a grid of p ports whose legs all cost c
abbrev pub grid_refusal : Kind → ℕ → List ℕ → Row → Option Refusal
grid_refusal k p hours c =
    or_refusal (port_count_refusal most_grid_ports p) (or_refusal (cond (length hours == p * p) None (Some Length)) (cost_refusal k c))

module _ (k : Kind) (p : ℕ) (c : Row) where
  -- number u * p + v leads from u to v; no hours are a blank
  abbrev pub hours_shown : ℕ → ℕ → Shown
  hours_shown n h = cond (h == 0) blank (limited k p (record { from = n / p; to = n % p; hours = h; cost = c }))

  -- the hours from number n on
  abbrev pub hours_from : ℕ → List ℕ → List Shown
  hours_from n [] = []
  hours_from n (h ∷ hs) = hours_shown n h ∷ hours_from (suc n) hs

  abbrev pub grid : List ℕ → Meaning
  grid hours = record { ports = p; entries = hours_from 0 (take most_legs hours) }
