-- What an edit of a written chart leaves. Assumes nothing.
use Rattle.std.specs.Prelude.{◌≡◌, ℕ, List, Option, Result, slice_set}
use Rattle.limits.specs.Refusals.{if_refused, answer}
use Rattle.limits.specs.declared.refusal.Refusal.{Refusal}
use Rattle.rows.specs.Rows.{Row}
use Rattle.rows.specs.Kinds.{Kind}
use Rattle.charts.specs.Meaning.{with_entry}
use Rattle.charts.specs.Written.{place_shown, written}
use Rattle.charts.specs.declared.leg.Leg.{Leg}

-- a chart of p ports over a table in which place n is written anew, unless the edit is refused
pub record Edited {K : Type 0} (k : Kind) (row : K → Row) (p : ℕ) (refusal : Option Refusal) (n : ℕ) (place : Option (Leg K))
    (before after : List (Option (Leg K))) (r : Result (Unit {0}) Refusal) : Type 0 where
  pub answered : r ≡ answer refusal tt
  -- this place so, all others as they were
  pub table : after ≡ if_refused refusal before (slice_set before n place)
  pub shown : written k row p after ≡ if_refused refusal (written k row p before) (with_entry (written k row p before) n (place_shown k row p place))
