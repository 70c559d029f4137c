-- What a chart with a layer on it shows. Assumes nothing.
use Rattle.std.proofs.Common.{◌≡◌, ℕ, Bool, true, false, length, Some, None, Option, sym, refl, ap, ◌∙◌, arith}
use lib.ListN.{length-map, get_or-map}
use Rattle.limits.specs.Numbers.{most_ports}
use Rattle.rows.specs.Kinds.{Kind}
use Rattle.rows.proofs.Order.{clash}
use Rattle.charts.specs.Meaning.{Figures, Shown, blank, leg, over, Meaning, Allowed, Within, shown_at}
use Rattle.charts.specs.Layers.{passed_shown, entry_becomes, layered}
use Rattle.charts.proofs.Allowed.{limited_allowed, blank_no_leg, over_no_leg}

-- a leg of any chart keeps the limits of the largest
pub allowed_anywhere : (k : Kind) (m : Meaning) (n : ℕ) (f : Figures) → Within k m → leg f ≡ shown_at m n → Allowed k most_ports f
allowed_anywhere k m n f within e =
    let a = within.legs_allowed n f (sym e) in
    record { from_port = omega (arith, a.from_port, within.few_ports); to_port = omega (arith, a.to_port, within.few_ports); few_hours = a.few_hours; small_cost = a.small_cost }

module _ (k : Kind) (becomes : Figures → Option Figures) where
  passed_allowed : (p : ℕ) (o : Option Figures) (f : Figures) → passed_shown k p o ≡ leg f → Allowed k p f
  passed_allowed p None f e = blank_no_leg e
  passed_allowed p (Some g) f e = limited_allowed k p g f e

  becomes_allowed : (p : ℕ) (s : Shown) (f : Figures) → entry_becomes k becomes p s ≡ leg f → Allowed k p f
  becomes_allowed p blank f e = blank_no_leg e
  becomes_allowed p (leg g) f e = passed_allowed p (becomes g) f e
  becomes_allowed p over f e = over_no_leg e

  at_entry : (m : Meaning) (n : ℕ) → shown_at (layered k becomes true m) n ≡ entry_becomes k becomes m.ports (shown_at m n)
  at_entry m n = get_or-map (entry_becomes k becomes m.ports) m.entries n blank

  pub layered_count : (a : Bool) (m : Meaning) → true ≡ a → length (layered k becomes a m).entries ≡ length m.entries
  layered_count true m e = length-map m.entries (entry_becomes k becomes m.ports)
  layered_count false m e = clash (sym e) refl

  pub layered_within : (a : Bool) (m : Meaning) → true ≡ a → Within k m → Within k (layered k becomes a m)
  layered_within true m e w = record {
    some_port = w.some_port;
    few_ports = w.few_ports;
    few_entries = omega (arith, w.few_entries, layered_count true m e);
    legs_allowed = λ n f q. becomes_allowed m.ports (shown_at m n) f (sym (at_entry m n) ∙ q);
  }
  layered_within false m e w = clash (sym e) refl
