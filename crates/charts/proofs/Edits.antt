-- What an edit of a written chart leaves. Assumes nothing.
use Rattle.std.proofs.Common.{◌≡◌, ℕ, ◌<◌, ◌≤◌, Bool, true, false, cond, ltb, ◌⊎◌, List, length, get_or, set, Some, None, Ok, Option, Result, sym, refl, ap, ◌∙◌, inl, inr, arith, length-take, get_or-take, get_or-set_same}
use lib.ListN.{get_or-eq_default}
use Rattle.std.proofs.lemmas.Bool.{ltb-true, cases_lt}
use Rattle.limits.specs.Numbers.{most_legs}
use Rattle.limits.specs.Refusals.{if_refused, answer}
use Rattle.limits.specs.declared.refusal.Refusal.{Refusal}
use Rattle.limits.specs.declared.refusal.Refusal.TheVariants.{NumberTaken, Number}
use Rattle.rows.specs.Rows.{Row}
use Rattle.rows.specs.Kinds.{Kind}
use Rattle.charts.specs.Meaning.{shown_at, leg, over}
use Rattle.charts.specs.Reading.{figures_of}
use Rattle.charts.specs.Limits.{price_refusal}
use Rattle.charts.specs.Written.{places_read, in_use, leg_in_use, repriced, place_shown, written, enter_refusal, reprice_refusal}
use Rattle.charts.specs.Edits.{Edited}
use Rattle.charts.specs.declared.leg.Leg.{Leg}
use Rattle.charts.proofs.Tables.{shown_place, written_set}

-- a refusal is no acceptance
refused_no : {A : Type 0} {e : Refusal} → Some e ≡ None → A
refused_no q = let z : ◌≡◌ {A = ℕ} 0 1 = cc in absurd (omega arith)

-- what is asked last is accepted, and what was asked first came out true
taken_apart : (b u : Bool) (r : Option Refusal) → cond b (cond u (Some NumberTaken) r) (Some Number) ≡ None → (b ≡ true) × (r ≡ None)
taken_apart true true r e = refused_no e
taken_apart true false r e = (refl, e)
taken_apart false u r e = refused_no e

module _ {K : Type 0} where
  number_below : (table : List (Option (Leg K))) (n : ℕ) → n < length (places_read table) → n < most_legs
  number_below table n h = omega (arith, length-take most_legs table)

  -- what is tested after a number's length is accepted only below it
  pub below_first : (table : List (Option (Leg K))) (n : ℕ) (r : Option Refusal) → cond (ltb n (length (places_read table))) r (Some Number) ≡ None → n < most_legs
  below_first table n r = by_test _ refl
    where
      by_test : (b : Bool) → ltb n (length (places_read table)) ≡ b → cond b r (Some Number) ≡ None → n < most_legs
      by_test true t e = number_below table n (ltb-true _ _ t)
      by_test false t e = refused_no e

  -- what is tested of a number in use is accepted only below the length
  pub used_first : (table : List (Option (Leg K))) (n : ℕ) (r : Option Refusal) → cond (in_use (get_or (places_read table) n None)) r (Some Number) ≡ None → n < most_legs
  used_first table n r e = by_order (cases_lt n (length (places_read table)))
    where
      by_order : (n < length (places_read table)) ⊎ (length (places_read table) ≤ n) → n < most_legs
      by_order (inl inside) = number_below table n inside
      by_order (inr past) = refused_no (ap (λ (o : Option (Leg K)). cond (in_use o) r (Some Number)) (sym (get_or-eq_default (places_read table) None past)) ∙ e)

  in_use_leg : (o : Option (Leg K)) (l : Leg K) → leg_in_use o ≡ Ok l → o ≡ Some l
  in_use_leg None l e = let z : ◌≡◌ {A = ℕ} 0 1 = cc in absurd (omega arith)
  in_use_leg (Some m) l e = cc

  -- a leg in use that is written with other hours and another cost is repriced
  pub repriced_table : (k : Kind) (row : K → Row) (table : List (Option (Leg K))) (n h : ℕ) (c : K) (l : Leg K) → leg_in_use (get_or (places_read table) n None) ≡ Ok l
      → price_refusal k h (row c) ≡ None
      → set table n (Some (record { from = l.from; to = l.to; hours = h; cost = c }))
      ≡ if_refused (reprice_refusal k row (places_read table) n h c) table (set table n (repriced h c (get_or table n None)))
  repriced_table k row table n h c l used priced =
      let there : get_or (places_read table) n None ≡ Some l = in_use_leg _ l used in
      let below : n < most_legs = used_first table n None (ap (λ (o : Option (Leg K)). cond (in_use o) None (Some Number)) there) in
      let whole : get_or table n None ≡ Some l = sym (get_or-take most_legs table n None below) ∙ there in
      sym (λ i. if_refused (cond (in_use (there i)) (priced i) (Some Number)) table (set table n (repriced h c (whole i))))

  -- a leg that is entered is what the chart then shows
  pub entered_shown : (k : Kind) (row : K → Row) (p n : ℕ) (l : Leg K) (before after : List (Option (Leg K))) → enter_refusal k row p (places_read before) n l ≡ None
      → after ≡ if_refused (enter_refusal k row p (places_read before) n l) before (set before n (Some l)) → shown_at (written k row p after) n ≡ leg (figures_of row l)
  entered_shown k row p n l before after e t =
      let o = taken_apart _ _ _ e in
      let inside : n < length (places_read before) = ltb-true _ _ o.0 in
      let below : n < most_legs = number_below before n inside in
      let there : n < length before = omega (arith, length-take most_legs before) in
      let is : after ≡ set before n (Some l) = t ∙ ap (λ (r : Option Refusal). if_refused r before (set before n (Some l))) e in
      ap (λ (table : List (Option (Leg K))). shown_at (written k row p table) n) is
      ∙ shown_place k row p (set before n (Some l)) n
      ∙ ap (place_shown k row p) (get_or-take most_legs (set before n (Some l)) n None below ∙ get_or-set_same before n (Some l) None there)
      ∙ ap (λ (r : Option Refusal). if_refused r over (leg (figures_of row l))) o.1

  pub edited : (k : Kind) (row : K → Row) (p : ℕ) (refusal : Option Refusal) (n : ℕ) (place : Option (Leg K)) (before after : List (Option (Leg K))) (r : Result (Unit {0}) Refusal)
      → (refusal ≡ None → n < most_legs) → r ≡ answer refusal tt → after ≡ if_refused refusal before (set before n place)
      → Edited k row p refusal n place before after r
  edited k row p (Some e) n place before after r below a t = record { answered = a; table = t; shown = ap (written k row p) t }
  edited k row p None n place before after r below a t = record { answered = a; table = t; shown = ap (written k row p) t ∙ written_set k row p before n place (below refl) }
