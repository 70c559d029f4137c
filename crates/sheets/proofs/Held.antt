-- A buffer holds what is written of a sheet, line after line. Assumes nothing.
use Rattle.std.proofs.Common.{◌≡◌, ℕ, ◌+◌, ◌*◌, ◌<◌, ◌≤◌, List, [], ◌∷◌, ◌++◌, length, take, drop, sym, refl, ap, ◌∙◌, subst, add-mul, one-mul, zero-mul, arith}
use Rattle.std.proofs.lemmas.List.{append_assoc, append-nil, length-append, length-take-le, take_at}
use Rattle.limits.specs.Numbers.{most_ports, most_legs, most_cost, most_hours, most_places}
use Rattle.rows.specs.Rows.{sum, Narrow}
use Rattle.rows.specs.Kinds.{Kind}
use Rattle.charts.specs.Meaning.{Allowed}
use Rattle.rows.proofs.Group.{sum_assoc, sum_zero, zero_sum}
use Rattle.columns.specs.Put.{put}
use Rattle.sheets.specs.declared.form.Form.{Form}
use Rattle.sheets.specs.Places.{largest}
use Rattle.sheets.specs.Form.{Numbered, Sheet, head_line, leg_line, leg_lines, end_line, sheet_bytes, summed_hours, summed_cost, head_length, leg_length, end_length}
use Rattle.sheets.specs.Proper.{least_after, ProperLeg, ProperLegs, Proper}
use Rattle.sheets.specs.Begun.{Begun, opened, with_leg}
use Rattle.sheets.specs.Writing.{with_line, least_past, numbers_of, Holds}
use Rattle.sheets.proofs.Lengths.{length_head, length_leg, length_end}
use Rattle.sheets.proofs.Taken.{Taken}

-- the front of a buffer, up to the end of what is put
pub take_put : (d s : List ℕ) (at m : ℕ) → length s ≡ m → at ≤ length d → take (at + m) (put d at s) ≡ take at d ++ s
unfolding put
take_put d s at m len room =
    ap (take (at + m)) (sym (append_assoc (take at d) s (drop (at + length s) d)))
    ∙ take_at (take at d ++ s) (drop (at + length s) d) (at + m) (omega (arith, length-append (take at d) s, length-take-le at d room))

-- one leg more at the end
pub leg_lines_more : (n : ℕ) (ls : List Numbered) (l : Numbered) → leg_lines n (ls ++ (l ∷ [])) ≡ leg_lines n ls ++ leg_line n l
unfolding leg_lines
leg_lines_more n [] l = append-nil (leg_line n l)
leg_lines_more n (x ∷ ls) l = ap (λ (bytes : List ℕ). leg_line n x ++ bytes) (leg_lines_more n ls l) ∙ sym (append_assoc (leg_line n x) (leg_lines n ls) (leg_line n l))

pub summed_hours_more : (ls : List Numbered) (l : Numbered) → summed_hours (ls ++ (l ∷ [])) ≡ summed_hours ls + l.leg.hours
summed_hours_more [] l = omega arith
summed_hours_more (x ∷ ls) l = omega (arith, summed_hours_more ls l)

pub summed_cost_more : (ls : List Numbered) (l : Numbered) → summed_cost (ls ++ (l ∷ [])) ≡ sum (summed_cost ls) l.leg.cost
summed_cost_more [] l = sum_zero l.leg.cost ∙ sym (zero_sum l.leg.cost)
summed_cost_more (x ∷ ls) l = ap (sum x.leg.cost) (summed_cost_more ls l) ∙ sym (sum_assoc x.leg.cost (summed_cost ls) l.leg.cost)

least_past_more : (form : Form) (least : ℕ) (ls : List Numbered) (l : Numbered) → least_past form least (ls ++ (l ∷ [])) ≡ least_after form l.number
least_past_more form least [] l = refl
least_past_more form least (x ∷ ls) l = least_past_more form (least_after form x.number) ls l

proper_legs_more : (k : Kind) (form : Form) (p least : ℕ) (ls : List Numbered) (l : Numbered) → ProperLegs k form p least ls
    → ProperLeg k p (least_past form least ls) l → ProperLegs k form p least (ls ++ (l ∷ []))
proper_legs_more k form p least [] l all one = (one, tt)
proper_legs_more k form p least (x ∷ ls) l all one = (all.0, proper_legs_more k form p (least_after form x.number) ls l all.1 one)

-- a sheet with one leg more is within the limits
pub proper_more : (k : Kind) (s : Sheet) (l : Numbered) → Proper k s → length s.legs < most_legs → ProperLeg k s.ports (least_past s.form 0 s.legs) l
    → Proper k (with_line s l)
proper_more k s l proper fewer one =
    record {
      some_port = proper.some_port;
      few_ports = proper.few_ports;
      few_legs = omega (arith, fewer, length-append s.legs (l ∷ []));
      legs_proper = proper_legs_more k s.form s.ports 0 s.legs l proper.legs_proper one;
    }

pub numbers_same : {a b : Begun} → a.form ≡ b.form → a.ports ≡ b.ports → a.end ≡ b.end → a.legs ≡ b.legs → a.least ≡ b.least → a.hours ≡ b.hours → a.cost ≡ b.cost → a ≡ b
numbers_same form ports end legs least hours cost =
    λ i. record { form = form i; ports = ports i; end = end i; legs = legs i; least = least i; hours = hours i; cost = cost i }

-- the numbers of a sheet with one leg more
pub numbers_more : (n : ℕ) (s : Sheet) (l : Numbered) → with_leg n (numbers_of n s) l ≡ numbers_of n (with_line s l)
numbers_more n s l =
    let more : length (s.legs ++ (l ∷ [])) ≡ length s.legs + 1 = length-append s.legs (l ∷ []) in
    numbers_same refl refl
    (rw more (omega (arith, add-mul (length s.legs) 1 (leg_length n), one-mul (leg_length n))))
    (sym more) (sym (least_past_more s.form 0 s.legs l)) (sym (summed_hours_more s.legs l)) (sym (summed_cost_more s.legs l))

pub begun_holds : (k : Kind) (form : Form) (ports : ℕ) (out : List ℕ) → k.places ≤ most_places → 1 ≤ ports → ports ≤ most_ports
    → Holds k (record { form = form; ports = ports; legs = [] }) (opened form ports) (put out 0 (head_line k.places form ports))
unfolding leg_lines
begun_holds k form ports out narrow some few =
    let head = head_line k.places form ports in
    record {
      proper = record { some_port = some; few_ports = few; few_legs = omega arith; legs_proper = tt };
      numbers = numbers_same refl refl (omega (arith, zero-mul (leg_length k.places))) refl refl refl refl;
      front = take_put out head 0 head_length (length_head k.places form ports few narrow) (omega arith) ∙ sym (append-nil head);
    }

module _ (k : Kind) (s : Sheet) (b : Begun) (out : List ℕ) (h : Holds k s b out) where
  pub line_holds : (l : Numbered) → Taken k b l (length out) → Narrow k.places l.leg.cost → largest l.leg.cost ≤ most_cost
      → Holds k (with_line s l) (with_leg k.places b l) (put out b.end (leg_line k.places l))
  line_holds l t narrow small =
      let n : ℕ = k.places in
      let is : b ≡ numbers_of n s = h.numbers in
      let least : b.least ≡ least_past s.form 0 s.legs = ap (λ (x : Begun). x.least) is in
      let legs : b.legs ≡ length s.legs = ap (λ (x : Begun). x.legs) is in
      let ports : b.ports ≡ s.ports = ap (λ (x : Begun). x.ports) is in
      let few : b.ports ≤ most_ports = omega (arith, ports, h.proper.few_ports) in
      let one : ProperLeg k s.ports (least_past s.form 0 s.legs) l = record {
        from_least = omega (arith, least, t.from_least);
        below_limit = t.below_limit;
        allowed = subst (λ (p : ℕ). Allowed k p l.leg) ports t.allowed;
        narrow = narrow;
        small = small;
      } in
      let len = length_leg n l t.below_limit (omega (arith, t.allowed.from_port)) (omega (arith, t.allowed.to_port)) t.allowed.few_hours small in
      record {
        proper = proper_more k s l h.proper (omega (arith, legs, t.one_more)) one;
        numbers = ap (λ (x : Begun). with_leg n x l) is ∙ numbers_more n s l;
        front =
            take_put out (leg_line n l) b.end (leg_length n) len (omega (arith, t.room))
            ∙ ap (λ (front : List ℕ). front ++ leg_line n l) h.front
            ∙ append_assoc (head_line n s.form s.ports) (leg_lines n s.legs) (leg_line n l)
            ∙ ap (λ (lines : List ℕ). head_line n s.form s.ports ++ lines) (sym (leg_lines_more n s.legs l));
      }

  pub whole_sheet : (b.end + end_length k.places ≤ length out) → b.legs ≤ most_legs → b.hours ≤ b.legs * most_hours → largest b.cost ≤ b.legs * most_cost
      → take (b.end + end_length k.places) (put out b.end (end_line k.places b.legs b.hours b.cost)) ≡ sheet_bytes k.places s
  unfolding sheet_bytes
  whole_sheet room few timed priced =
      take_put out (end_line k.places b.legs b.hours b.cost) b.end (end_length k.places) (length_end k.places b.legs b.hours b.cost few timed priced) (omega arith)
      ∙ ap (λ (front : List ℕ). front ++ end_line k.places b.legs b.hours b.cost) h.front
      ∙ ap (λ (x : Begun). head_line k.places s.form s.ports ++ leg_lines k.places s.legs ++ end_line k.places x.legs x.hours x.cost) h.numbers
