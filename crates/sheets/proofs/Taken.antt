-- What holds where a call is not refused. Assumes nothing.
use Rattle.std.proofs.Common.{◌≡◌, ℕ, ◌+◌, ◌<◌, ◌≤◌, Bool, true, false, cond, ◌&&◌, ltb, leb, Some, None, Option, refl, ap, arith}
use Rattle.std.proofs.lemmas.Bool.{ltb-true, leb-true, and_parts}
use Rattle.limits.specs.Numbers.{most_ports, most_legs}
use Rattle.limits.specs.Refusals.{or_refusal, if_refused}
use Rattle.limits.specs.declared.refusal.Refusal.{Refusal}
use Rattle.limits.specs.declared.refusal.Refusal.TheVariants.{Number, Length, Port}
use Rattle.rows.specs.Kinds.{Kind}
use Rattle.charts.specs.Meaning.{Figures, Allowed, leg, over}
use Rattle.charts.specs.Limits.{leg_refusal, port_count_refusal}
use Rattle.charts.proofs.Allowed.{limited_allowed}
use Rattle.sheets.specs.Form.{Numbered, head_length, leg_length, end_length}
use Rattle.sheets.specs.Begun.{Begun, room_refusal, number_refusal_below, number_refusal, begin_refusal, line_refusal}

-- none is no refusal
pub some_no_none : {A : Type 0} {e : Refusal} → Some e ≡ None → A
some_no_none q = let z : ◌≡◌ {A = ℕ} 0 1 = cc in absurd (omega arith)

pub either_none : (a b : Option Refusal) → or_refusal a b ≡ None → (a ≡ None) × (b ≡ None)
either_none (Some e) b q = some_no_none q
either_none None b q = (refl, q)

test_true : (b : Bool) (e : Refusal) → cond b None (Some e) ≡ None → b ≡ true
test_true true e q = refl
test_true false e q = some_no_none q

pub room_taken : (needed len : ℕ) → room_refusal needed len ≡ None → needed ≤ len
room_taken needed len q = leb-true _ _ (test_true (leb needed len) Length q)

pub port_count_taken : (most ports : ℕ) → port_count_refusal most ports ≡ None → (1 ≤ ports) × (ports ≤ most)
port_count_taken most ports q =
    let count = and_parts (leb 1 ports) (leb ports most) (test_true (leb 1 ports && leb ports most) Port q) in
    (leb-true _ _ count.0, leb-true _ _ count.1)

pub begin_taken : (n ports len : ℕ) → begin_refusal n ports len ≡ None → (1 ≤ ports) × (ports ≤ most_ports) × (head_length + end_length n ≤ len)
begin_taken n ports len q =
    let both = either_none (port_count_refusal most_ports ports) (room_refusal (head_length + end_length n) len) q in
    let count = port_count_taken most_ports ports both.0 in
    (count.0, count.1, room_taken (head_length + end_length n) len both.1)

pub number_taken : (most : ℕ) (b : Begun) (number : ℕ) → number_refusal_below most b number ≡ None → (number < most) × (b.least ≤ number) × (b.legs < most_legs)
number_taken most b number q =
    let tests = and_parts (ltb number most && leb b.least number) (ltb b.legs most_legs) (test_true _ Number q) in
    let number_tests = and_parts (ltb number most) (leb b.least number) tests.0 in
    (ltb-true _ _ number_tests.0, leb-true _ _ number_tests.1, ltb-true _ _ tests.1)

pub leg_taken : (k : Kind) (p : ℕ) (f : Figures) → leg_refusal k p f ≡ None → Allowed k p f
leg_taken k p f q = limited_allowed k p f f (ap (λ r. if_refused r over (leg f)) q)

pub record Taken (k : Kind) (b : Begun) (l : Numbered) (len : ℕ) : Type 0 where
  pub below_limit : l.number < most_legs
  pub from_least : b.least ≤ l.number
  pub one_more : b.legs < most_legs
  pub allowed : Allowed k b.ports l.leg
  pub room : b.end + leg_length k.places + end_length k.places ≤ len

pub line_taken : (k : Kind) (b : Begun) (l : Numbered) (len : ℕ) → line_refusal k b l len ≡ None → Taken k b l len
line_taken k b l len q =
    let needed : ℕ = b.end + leg_length k.places + end_length k.places in
    let first = either_none (number_refusal b l.number) (or_refusal (leg_refusal k b.ports l.leg) (room_refusal needed len)) q in
    let second = either_none (leg_refusal k b.ports l.leg) (room_refusal needed len) first.1 in
    let number = number_taken most_legs b l.number first.0 in
    record {
      below_limit = number.0;
      from_least = number.1;
      one_more = number.2;
      allowed = leg_taken k b.ports l.leg second.0;
      room = room_taken needed len second.1;
    }
