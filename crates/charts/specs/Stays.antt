-- The stays of a ship in each port. Assumes nothing.
use Rattle.std.specs.Prelude.{ℕ, Bool, cond, List, Some, None, Option, nat_le}
use Rattle.std.specs.List.{list_all}
use Rattle.limits.specs.Numbers.{most_hours}
use Rattle.limits.specs.declared.refusal.Refusal.{Refusal}
use Rattle.limits.specs.declared.refusal.Refusal.TheVariants.{Hours}

-- no stay is longer than the most hours
abbrev pub all_short : List ℕ → Bool
all_short = list_all (λ h. nat_le h most_hours)

abbrev pub stays_refusal : List ℕ → Option Refusal
stays_refusal stays = cond (all_short stays) None (Some Hours)
