-- What a table of legs shows, and why an edit of it is refused. Assumes nothing.
use Rattle.std.specs.Prelude.{ℕ, Bool, true, false, cond, List, map, length, take, Some, None, Ok, Err, Option, Result, nat_le, nat_lt, slice_index_or}
use Rattle.limits.specs.Numbers.{most_ports, most_legs}
use Rattle.limits.specs.Refusals.{or_refusal}
use Rattle.limits.specs.declared.refusal.Refusal.{Refusal}
use Rattle.limits.specs.declared.refusal.Refusal.TheVariants.{NumberTaken, Number, Length}
use Rattle.rows.specs.Rows.{Row}
use Rattle.rows.specs.Kinds.{Kind}
use Rattle.charts.specs.Meaning.{Shown, blank, Meaning}
use Rattle.charts.specs.Limits.{port_count_refusal, price_refusal, leg_refusal, limited}
use Rattle.charts.specs.Reading.{figures_of}
use Rattle.charts.specs.declared.leg.Leg.{Leg}

-- why a table cannot open as a chart of p ports
abbrev pub table_refusal : {A : Type 0} → ℕ → List A → Option Refusal
table_refusal p table = or_refusal (port_count_refusal most_ports p) (cond (nat_le (length table) most_legs) None (Some Length))

-- the places of a table that a chart reads: all of them, since none opens over more
abbrev pub places_read : {A : Type 0} → List A → List A
places_read table = take most_legs table

-- a leg stands there, be it within the limits or over
abbrev pub in_use : {K : Type 0} → Option (Leg K) → Bool
in_use None = false
in_use (Some l) = true

-- the leg that stands there, and else the refusal of a number not in use
abbrev pub leg_in_use : {K : Type 0} → Option (Leg K) → Result (Leg K) Refusal
leg_in_use None = Err Number
leg_in_use (Some l) = Ok l

-- the same ports, with other hours and another cost
abbrev pub repriced : {K : Type 0} → ℕ → K → Option (Leg K) → Option (Leg K)
repriced h c None = None
repriced h c (Some l) = Some (record { from = l.from; to = l.to; hours = h; cost = c })

module _ {K : Type 0} (k : Kind) (row : K → Row) where
  -- what a place of a table shows
  abbrev pub place_shown : ℕ → Option (Leg K) → Shown
  place_shown p None = blank
  place_shown p (Some l) = limited k p (figures_of row l)

  abbrev pub written : ℕ → List (Option (Leg K)) → Meaning
  written p table = record { ports = p; entries = map (place_shown p) (places_read table) }

  abbrev pub enter_refusal : ℕ → List (Option (Leg K)) → ℕ → Leg K → Option Refusal
  enter_refusal p places n l =
      cond (nat_lt n (length places)) (cond (in_use (slice_index_or places n None)) (Some NumberTaken) (leg_refusal k p (figures_of row l))) (Some Number)

  abbrev pub reprice_refusal : List (Option (Leg K)) → ℕ → ℕ → K → Option Refusal
  reprice_refusal places n h c = cond (in_use (slice_index_or places n None)) (price_refusal k h (row c)) (Some Number)

abbrev pub withdraw_refusal : {K : Type 0} → List (Option (Leg K)) → ℕ → Option Refusal
withdraw_refusal places n = cond (in_use (slice_index_or places n None)) None (Some Number)
