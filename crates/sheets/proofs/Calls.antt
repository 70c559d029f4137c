-- What the calls on a sheet leave where they are not refused. Assumes nothing.
use Rattle.std.proofs.Common.{◌≡◌, ℕ, ◌<◌, ◌≤◌, List, [], length, None, Ok, Option, sym, ap, ◌∙◌, nat_abs, subst, false, arith}
use Rattle.std.specs.Result.{is_err}
use Rattle.limits.specs.Numbers.{most_legs, most_hours, most_cost, most_places}
use Rattle.limits.specs.Refusals.{if_refused, answer}
use Rattle.limits.specs.declared.refusal.Refusal.{Refusal}
use Rattle.rows.specs.Rows.{place, Narrow}
use Rattle.rows.specs.Kinds.{Kind}
use Rattle.columns.specs.Put.{put}
use Rattle.sheets.specs.declared.form.Form.{Form}
use Rattle.sheets.specs.declared.sheet.BegunSheet.{BegunSheet}
use Rattle.sheets.specs.declared.sheet.ClosedSheet.{ClosedSheet}
use Rattle.sheets.specs.Places.{largest}
use Rattle.sheets.specs.Form.{Numbered, head_line, leg_line, end_line}
use Rattle.sheets.specs.Begun.{Begun, begun, opened, with_leg, begin_refusal, line_refusal, close_refusal, closed_length}
use Rattle.sheets.specs.Writing.{Holds, with_line, Begins, Takes, Ends}
use Rattle.sheets.proofs.Sums.{largest_within}
use Rattle.sheets.proofs.Taken.{begin_taken, line_taken, room_taken}
use Rattle.sheets.proofs.Held.{begun_holds, line_holds, whole_sheet}
use Rattle.sheets.proofs.Whole.{accepted, no_error}

-- what stands where a call is not refused
unrefused : {A : Type 0} (r : Option Refusal) (x y : A) → r ≡ None → if_refused r x y ≡ y
unrefused r x y none = ap (λ o. if_refused o x y) none

pub begins : (k : Kind) (form : Form) (ports : ℕ) (out out' : List ℕ) (b : Begun) → k.places ≤ most_places
    → Ok (tt {0}) ≡ answer (begin_refusal k.places ports (length out)) (tt {0}) → b ≡ opened form ports → out' ≡ put out 0 (head_line k.places form ports)
    → Begins k form ports out (Ok b) out'
begins k form ports out out' b narrow ok sheet bytes =
    let none = (accepted (begin_refusal k.places ports (length out)) tt tt ok).0 in
    let t = begin_taken k.places ports (length out) none in
    record {
      answered = ap Ok sheet ∙ sym (ap (λ o. answer o (opened form ports)) none);
      bytes = bytes ∙ sym (unrefused _ _ _ none);
      holds = λ _. subst (Holds k (record { form = form; ports = ports; legs = [] }) (opened form ports)) (sym bytes) (begun_holds k form ports out narrow t.0 t.1);
    }

-- where a leg line is not refused, its numbers fit their columns
pub line_fits : (k : Kind) (b : Begun) (l : Numbered) (len : ℕ) → Ok (tt {0}) ≡ answer (line_refusal k b l len) (tt {0}) → ((i : ℕ) → nat_abs (place l.leg.cost i) ≤ k.size l.leg.cost)
    → (l.number < most_legs) × ((l.leg.hours ≤ most_hours) × (largest l.leg.cost ≤ most_cost))
line_fits k b l len ok bounded =
    let t = line_taken k b l len (accepted (line_refusal k b l len) tt tt ok).0 in
    (t.below_limit, (t.allowed.few_hours, omega (arith, largest_within l.leg.cost (k.size l.leg.cost) bounded, t.allowed.small_cost)))

pub takes : (k : Kind) (b b' : Begun) (l : Numbered) (out out' : List ℕ) → Narrow k.places l.leg.cost → ((i : ℕ) → nat_abs (place l.leg.cost i) ≤ k.size l.leg.cost)
    → Ok (tt {0}) ≡ answer (line_refusal k b l (length out)) (tt {0}) → b' ≡ with_leg k.places b l → out' ≡ put out b.end (leg_line k.places l)
    → Takes k b l out (Ok tt) b' out'
takes k b b' l out out' narrow bounded ok sheet bytes =
    let none = (accepted (line_refusal k b l (length out)) tt tt ok).0 in
    let t = line_taken k b l (length out) none in
    let fits = line_fits k b l (length out) ok bounded in
    record {
      answered = sym (ap (λ o. answer o tt) none);
      sheet = sheet ∙ sym (unrefused _ _ _ none);
      bytes = bytes ∙ sym (unrefused _ _ _ none);
      holds = λ s h _.
          let held = line_holds k s b out h l t narrow fits.1.1 in
          subst (λ x. Holds k (with_line s l) x out') (sym sheet) (subst (Holds k (with_line s l) (with_leg k.places b l)) (sym bytes) held);
    }

pub ends : {K : Type 0} (k : Kind) (b : BegunSheet K) (c : ClosedSheet) (out out' : List ℕ)
    → is_err (answer (close_refusal k.places (begun b) (length out)) (tt {0})) ≡ false → c.length ≡ closed_length k.places (begun b) → out' ≡ put out (begun b).end (end_line k.places (begun b).legs (begun b).hours (begun b).cost)
    → Ends k b out (Ok c) out'
ends k b c out out' ok length_is bytes =
    let none = no_error (close_refusal k.places (begun b) (length out)) tt ok in
    record {
      answered = (none, length_is);
      bytes = bytes ∙ sym (unrefused _ _ _ none);
      whole = λ s h _. rw bytes (whole_sheet k s (begun b) out h (room_taken _ _ none) b.tally.few b.tally.timed b.tally.priced);
    }
