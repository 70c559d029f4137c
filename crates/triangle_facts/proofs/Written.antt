-- A written chart over legs, from what the legs show. Assumes nothing.
use Rattle.std.proofs.Common.{◌≡◌, ℕ, ◌≤◌, List, [], ◌∷◌, Some, map, length, refl, ap, ◌∙◌, suc}
use Rattle.std.proofs.lemmas.List.{take_all}
use Rattle.limits.specs.Numbers.{most_legs}
use Rattle.rows.specs.Rows.{Row}
use Rattle.rows.specs.Kinds.{Kind}
use Rattle.charts.specs.Meaning.{Shown, blank, leg, over}
use Rattle.charts.specs.Limits.{limited}
use Rattle.charts.specs.Reading.{figures_of}
use Rattle.charts.specs.Written.{place_shown, written}
use Rattle.charts.specs.declared.leg.Leg.{Leg}

-- an entry within the limits of a chart of p ports, or over
abbrev pub within_limits : Kind → ℕ → Shown → Shown
within_limits k p blank = blank
within_limits k p (leg f) = limited k p f
within_limits k p over = over

module _ {K : Type 0} (k : Kind) (row : K → Row) (p : ℕ) where
  abbrev pub shown : List (Leg K) → List Shown
  shown ls = map (λ l. leg (figures_of row l)) ls

  places_show : (ls : List (Leg K)) → map (place_shown k row p) (map Some ls) ≡ map (within_limits k p) (shown ls)
  places_show [] = refl
  places_show (l ∷ ls) = ap (λ t. limited k p (figures_of row l) ∷ t) (places_show ls)

  same_length : (ls : List (Leg K)) → length (map Some ls) ≡ length (shown ls)
  same_length [] = refl
  same_length (l ∷ ls) = ap suc (same_length ls)

  -- a written chart over legs shows them within the limits
  pub written_shows : (ls : List (Leg K)) (es : List Shown) → shown ls ≡ es → length es ≤ most_legs → written k row p (map Some ls) ≡ record { ports = p; entries = map (within_limits k p) es }
  written_shows ls es e h =
      let few : length (map Some ls) ≤ most_legs = rw (same_length ls) (rw e h) in
      ap (λ t. record { ports = p; entries = t }) (ap (map (place_shown k row p)) (take_all most_legs (map Some ls) few) ∙ (places_show ls ∙ ap (map (within_limits k p)) e))
