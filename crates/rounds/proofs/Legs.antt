-- The legs of a chart within its limits. Assumes nothing.
use Rattle.std.proofs.Common.{◌≡◌, ℕ, ◌<◌, ◌≤◌, true, ◌⊎◌, length, refl, ap, inl, inr}
use lib.ListN.{get_or-eq_default}
use Rattle.std.proofs.lemmas.Bool.{cases_lt}
use Rattle.rows.specs.Kinds.{Kind}
use Rattle.rows.proofs.Order.{clash}
use Rattle.charts.specs.Meaning.{Meaning, Shown, blank, leg, over, shown_at, Allowed, Within}
use Rattle.rounds.specs.Legs.{is_leg, shown_figures, there, figures_at, LegsJoinPorts}

shown_leg : (s : Shown) → is_leg s ≡ true → s ≡ leg (shown_figures s)
shown_leg blank h = clash h refl
shown_leg (leg f) h = refl
shown_leg over h = clash h refl

-- only numbers below the count are those of legs
pub listed : (m : Meaning) (n : ℕ) → there m n ≡ true → n < length m.entries
listed m n h = go (cases_lt n (length m.entries))
  where
    go : (n < length m.entries) ⊎ (length m.entries ≤ n) → n < length m.entries
    go (inl p) = p
    go (inr p) = clash h (ap is_leg (get_or-eq_default m.entries blank p))

module _ (k : Kind) (m : Meaning) (within : Within k m) where
  pub allowed : (n : ℕ) → there m n ≡ true → Allowed k m.ports (figures_at m n)
  allowed n h = within.legs_allowed n (figures_at m n) (shown_leg (shown_at m n) h)

  pub legs_join_ports : LegsJoinPorts m
  legs_join_ports n h = let a = allowed n h in (a.from_port, a.to_port)
