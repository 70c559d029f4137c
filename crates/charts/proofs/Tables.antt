-- What a table of legs shows. Assumes nothing.
use Rattle.std.proofs.Common.{◌≡◌, ℕ, ◌<◌, ◌≤◌, List, map, length, get_or, set, Some, None, Option, sym, ap, ◌∙◌, arith, length-take}
use lib.ListN.{length-map, get_or-map}
use lib.Seq.{map-set, take-set-lt}
use Rattle.limits.specs.Numbers.{most_ports, most_legs}
use Rattle.rows.specs.Rows.{Row}
use Rattle.rows.specs.Kinds.{Kind}
use Rattle.charts.specs.Meaning.{Figures, Shown, leg, Allowed, Within, shown_at, with_entry}
use Rattle.charts.specs.Reading.{figures_of}
use Rattle.charts.specs.Written.{places_read, place_shown, written}
use Rattle.charts.specs.declared.leg.Leg.{Leg}
use Rattle.charts.proofs.Allowed.{limited_allowed, blank_no_leg}

module _ {K : Type 0} (k : Kind) (row : K → Row) (p : ℕ) where
  pub shown_place : (table : List (Option (Leg K))) (n : ℕ) → shown_at (written k row p table) n ≡ place_shown k row p (get_or (places_read table) n None)
  shown_place table n = get_or-map (place_shown k row p) (places_read table) n None

  place_allowed : (o : Option (Leg K)) (f : Figures) → place_shown k row p o ≡ leg f → Allowed k p f
  place_allowed None f e = blank_no_leg e
  place_allowed (Some l) f e = limited_allowed k p (figures_of row l) f e

  pub length_places : (table : List (Option (Leg K))) → length (written k row p table).entries ≡ length (places_read table)
  length_places table = length-map (places_read table) (place_shown k row p)

  pub written_within : (table : List (Option (Leg K))) → 1 ≤ p → p ≤ most_ports → Within k (written k row p table)
  written_within table some few = record {
    some_port = some;
    few_ports = few;
    few_entries = omega (arith, length_places table, length-take most_legs table);
    legs_allowed = λ n f e. place_allowed (get_or (places_read table) n None) f (sym (shown_place table n) ∙ e);
  }

  -- a place written anew, below the limit of entries, is that entry written anew
  pub written_set : (table : List (Option (Leg K))) (n : ℕ) (o : Option (Leg K)) → n < most_legs
      → written k row p (set table n o) ≡ with_entry (written k row p table) n (place_shown k row p o)
  written_set table n o h = ap (λ (entries : List Shown). record { ports = p; entries = entries })
      (ap (map (place_shown k row p)) (take-set-lt most_legs table n o h) ∙ map-set (place_shown k row p) (places_read table) n o)
