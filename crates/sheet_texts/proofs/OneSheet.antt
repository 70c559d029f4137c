-- A text is one sheet at most, a sheet that can be read has no fault, and a text is at fault in one line. Assumes nothing.
use Rattle.std.proofs.Common.{◌≡◌, ℕ, ◌+◌, ◌≤◌, min, List, [], ◌++◌, length, pos, Some, sym, refl, ap, ◌∙◌, subst}
use Rattle.std.proofs.lemmas.List.{append_assoc, append-nil, append_cancel_left}
use Rattle.limits.specs.Numbers.{most_ports, most_places}
use Rattle.limits.specs.declared.refusal.Refusal.{Refusal}
use Rattle.limits.specs.declared.refusal.Refusal.TheVariants.{Malformed}
use Rattle.rows.specs.Rows.{Narrow}
use Rattle.rows.specs.Kinds.{Kind}
use Rattle.charts.specs.Limits.{port_count_refusal}
use Rattle.columns.specs.Columns.{Fits}
use Rattle.sheets.specs.declared.form.Form.TheVariants.{Chart}
use Rattle.sheets.specs.Form.{number_width, Numbered, Sheet, head_line, leg_line, leg_lines, sheet_bytes, summed_hours, summed_cost}
use Rattle.sheets.proofs.Taken.{some_no_none}
use Rattle.sheet_texts.specs.Faults.{Limits, Readable, LegFits, front_bytes, last_line, next_leg_refusal, FaultAt, no_head, ports_refused, no_line, leg_refused, left_over}
use Rattle.sheet_texts.specs.Theorems.{OneSheet, SoundSheet, OneFault}
use Rattle.sheet_texts.proofs.Same.{head_line_same, leg_line_same, leg_no_end}
use Rattle.sheet_texts.proofs.Fronts.{Halts, front_parts, readable_ports_fit, ports_taken, front_same}

some_same : {d e : Refusal} → Some d ≡ Some e → d ≡ e
some_same q = cc

sheet_parts : (n : ℕ) (s : Sheet) (rest : List ℕ) → sheet_bytes n s ++ rest ≡ front_bytes n s ++ (last_line n s ++ rest)
unfolding sheet_bytes
sheet_parts n s rest = append_assoc (front_bytes n s) (last_line n s) rest

sheet_whole : (n : ℕ) (s : Sheet) → sheet_bytes n s ≡ front_bytes n s ++ last_line n s
unfolding sheet_bytes
sheet_whole n s = refl

-- the letter of a leg line is not that of an end line
last_no_leg : (n : ℕ) (s : Sheet) (l : Numbered) (more rest : List ℕ) → last_line n s ++ rest ≡ leg_line n l ++ more → ⊥
last_no_leg n s l more rest e = leg_no_end n n l (length s.legs) (summed_hours s.legs) (summed_cost s.legs) more rest (sym e)

-- no leg line follows that may come next, where the end line does, or a leg line that is refused
last_halts : (k : Kind) (m : Limits) (s : Sheet) (r more : List ℕ) → r ≡ last_line k.places s ++ more → Halts k m s r
last_halts k m s r more is l after fits narrow none e = last_no_leg k.places s l after more (sym is ∙ e)

refused_halts : (k : Kind) (m : Limits) (s : Sheet) (l : Numbered) (r more : List ℕ) (e : Refusal) → LegFits k.places l → Narrow k.places l.leg.cost
    → r ≡ leg_line k.places l ++ more → next_leg_refusal k m s l ≡ Some e → Halts k m s r
refused_halts k m s l r more e fits narrow is refused x after fits' narrow' none is' =
    let same = leg_line_same k.places l x more after fits fits' narrow narrow' (sym is ∙ is') in
    some_no_none (sym refused ∙ ap (next_leg_refusal k m s) same.0 ∙ none)

-- why no sheet goes on after the legs of s
data Why (k : Kind) (m : Limits) (s : Sheet) (rest : List ℕ) : Refusal → ℕ → Type 0 where
  unread : ((l : Numbered) (more : List ℕ) → LegFits k.places l → rest ≡ leg_line k.places l ++ more → ⊥)
      → ((more : List ℕ) → rest ≡ last_line k.places s ++ more → ⊥) → Why k m s rest Malformed (length s.legs + 2)
  refused : (l : Numbered) (more : List ℕ) (e : Refusal) → LegFits k.places l → Narrow k.places l.leg.cost
      → rest ≡ leg_line k.places l ++ more → next_leg_refusal k m s l ≡ Some e → Why k m s rest e (length s.legs + 2)
  over : (more : List ℕ) → rest ≡ last_line k.places s ++ more → (more ≡ [] → ⊥) → Why k m s rest Malformed (length s.legs + 3)

why_halts : (k : Kind) (m : Limits) (s : Sheet) (rest : List ℕ) {e : Refusal} {i : ℕ} → Why k m s rest e i → Halts k m s rest
why_halts k m s rest (unread no_leg no_last) = λ l more fits narrow none is. no_leg l more fits is
why_halts k m s rest (refused l more e fits narrow is refusal) = refused_halts k m s l rest more e fits narrow is refusal
why_halts k m s rest (over more is some) = last_halts k m s rest more is

why_same : (k : Kind) (m : Limits) (s : Sheet) (rest : List ℕ) {d e : Refusal} {i j : ℕ} → Why k m s rest d i → Why k m s rest e j → (d ≡ e) × (i ≡ j)
why_same k m s rest (unread no_leg no_last) (unread no_leg' no_last') = (refl, refl)
why_same k m s rest (unread no_leg no_last) (refused l more e fits narrow is refusal) = absurd (no_leg l more fits is)
why_same k m s rest (unread no_leg no_last) (over more is some) = absurd (no_last more is)
why_same k m s rest (refused l more d fits narrow is refusal) (unread no_leg no_last) = absurd (no_leg l more fits is)
why_same k m s rest (refused l more d fits narrow is refusal) (refused l' more' e fits' narrow' is' refusal') =
    let same = leg_line_same k.places l l' more more' fits fits' narrow narrow' (sym is ∙ is') in
    (some_same (sym refusal ∙ ap (next_leg_refusal k m s) same.0 ∙ refusal'), refl)
why_same k m s rest (refused l more d fits narrow is refusal) (over more' is' some) = absurd (last_no_leg k.places s l more more' (sym is' ∙ is))
why_same k m s rest (over more is some) (unread no_leg no_last) = absurd (no_last more is)
why_same k m s rest (over more is some) (refused l more' e fits narrow is' refusal) = absurd (last_no_leg k.places s l more' more (sym is ∙ is'))
why_same k m s rest (over more is some) (over more' is' some') = (refl, refl)

-- the end line of a sheet is all that follows its legs
why_not_whole : (k : Kind) (m : Limits) (s : Sheet) {e : Refusal} {i : ℕ} → Why k m s (last_line k.places s) e i → ⊥
why_not_whole k m s (unread no_leg no_last) = no_last [] (sym (append-nil (last_line k.places s)))
why_not_whole k m s (refused l more e fits narrow is refusal) = last_no_leg k.places s l more [] (append-nil (last_line k.places s) ∙ is)
why_not_whole k m s (over more is some) =
    some (sym (append_cancel_left (last_line k.places s) [] more (append-nil (last_line k.places s) ∙ is)))

-- a fault in the first line, or after the front of a sheet
data Sorted (k : Kind) (m : Limits) (text : List ℕ) : Refusal → ℕ → Type 0 where
  headless : ((p : ℕ) (rest : List ℕ) → Fits number_width (pos p) → text ≡ head_line k.places Chart p ++ rest → ⊥) → Sorted k m text Malformed 1
  ported : (p : ℕ) (rest : List ℕ) (e : Refusal) → Fits number_width (pos p) → text ≡ head_line k.places Chart p ++ rest
      → port_count_refusal (min m.ports most_ports) p ≡ Some e → Sorted k m text e 1
  stopped : (s : Sheet) (rest : List ℕ) (e : Refusal) (i : ℕ) → Readable k m s → text ≡ front_bytes k.places s ++ rest → Why k m s rest e i → Sorted k m text e i

sorted : (k : Kind) (m : Limits) (text : List ℕ) {e : Refusal} {i : ℕ} → FaultAt k m text e i → Sorted k m text e i
sorted k m text (no_head none) = headless none
sorted k m text (ports_refused p rest e fits is refusal) = ported p rest e fits is refusal
sorted k m text (no_line s rest read is no_leg no_last) = stopped s rest Malformed (length s.legs + 2) read is (unread no_leg no_last)
sorted k m text (leg_refused s l rest e read fits narrow is refusal) =
    stopped s (leg_line k.places l ++ rest) e (length s.legs + 2) read is (refused l rest e fits narrow refl refusal)
sorted k m text (left_over s rest read is some) =
    stopped s (last_line k.places s ++ rest) Malformed (length s.legs + 3) read (is ∙ sheet_parts k.places s rest) (over rest refl some)

-- a text that begins with the front of a sheet begins with its first line
front_head : (k : Kind) (m : Limits) (s : Sheet) (text rest : List ℕ) → Readable k m s → text ≡ front_bytes k.places s ++ rest
    → ((p : ℕ) (more : List ℕ) → Fits number_width (pos p) → text ≡ head_line k.places Chart p ++ more → ⊥) → ⊥
front_head k m s text rest read is none =
    none s.ports (leg_lines k.places s.legs ++ rest) (readable_ports_fit k m s read) (is ∙ front_parts k m s rest read)

front_ports : (k : Kind) (m : Limits) (s : Sheet) (text rest more : List ℕ) (p : ℕ) (e : Refusal) → k.places ≤ most_places → Readable k m s → text ≡ front_bytes k.places s ++ rest
    → Fits number_width (pos p) → text ≡ head_line k.places Chart p ++ more → port_count_refusal (min m.ports most_ports) p ≡ Some e → ⊥
front_ports k m s text rest more p e few read is fits is' refusal =
    let same = head_line_same k.places p s.ports more (leg_lines k.places s.legs ++ rest) few fits (readable_ports_fit k m s read) (sym is' ∙ is ∙ front_parts k m s rest read) in
    some_no_none (sym refusal ∙ ap (port_count_refusal (min m.ports most_ports)) same.0 ∙ ports_taken k m s read)

pub one_sheet : OneSheet
one_sheet k m s t few read read' e =
    let n : ℕ = k.places in
    (front_same k m s t (last_line n s) (last_line n t) few read read'
    (last_halts k m s (last_line n s) [] (sym (append-nil (last_line n s))))
    (last_halts k m t (last_line n t) [] (sym (append-nil (last_line n t))))
    (sym (sheet_whole n s) ∙ e ∙ sheet_whole n t)).0

sorted_sound : (k : Kind) (m : Limits) (s : Sheet) {e : Refusal} {line : ℕ} → k.places ≤ most_places → Readable k m s → Sorted k m (sheet_bytes k.places s) e line → ⊥
sorted_sound k m s few read (headless none) = front_head k m s (sheet_bytes k.places s) (last_line k.places s) read (sheet_whole k.places s) none
sorted_sound k m s few read (ported p rest e fits is refusal) =
    front_ports k m s (sheet_bytes k.places s) (last_line k.places s) rest p e few read (sheet_whole k.places s) fits is refusal
sorted_sound k m s few read (stopped t rest e line read' is why) =
    let last : List ℕ = last_line k.places s in
    let same = front_same k m s t last rest few read read' (last_halts k m s last [] (sym (append-nil last))) (why_halts k m t rest why) (sym (sheet_whole k.places s) ∙ is) in
    let here : Why k m s rest e line = subst (λ (x : Sheet). Why k m x rest e line) (sym same.0) why in
    why_not_whole k m s (subst (λ (r : List ℕ). Why k m s r e line) (sym same.1) here)

pub sound_sheet : SoundSheet
sound_sheet k m s e line few read fault = sorted_sound k m s few read (sorted k m (sheet_bytes k.places s) fault)

sorted_same : (k : Kind) (m : Limits) (text : List ℕ) {d e : Refusal} {i j : ℕ} → k.places ≤ most_places → Sorted k m text d i → Sorted k m text e j → (d ≡ e) × (i ≡ j)
sorted_same k m text few (headless none) (headless none') = (refl, refl)
sorted_same k m text few (headless none) (ported p rest e fits is refusal) = absurd (none p rest fits is)
sorted_same k m text few (headless none) (stopped s rest e j read is why) = absurd (front_head k m s text rest read is none)
sorted_same k m text few (ported p rest d fits is refusal) (headless none) = absurd (none p rest fits is)
sorted_same k m text few (ported p rest d fits is refusal) (ported p' rest' e fits' is' refusal') =
    let same = head_line_same k.places p p' rest rest' few fits fits' (sym is ∙ is') in
    (some_same (sym refusal ∙ ap (port_count_refusal (min m.ports most_ports)) same.0 ∙ refusal'), refl)
sorted_same k m text few (ported p more d fits is refusal) (stopped s rest e j read is' why) = absurd (front_ports k m s text rest more p d few read is' fits is refusal)
sorted_same k m text few (stopped s rest d i read is why) (headless none) = absurd (front_head k m s text rest read is none)
sorted_same k m text few (stopped s rest d i read is why) (ported p more e fits is' refusal) = absurd (front_ports k m s text rest more p e few read is fits is' refusal)
sorted_same k m text few (stopped s rest d i read is why) (stopped t rest' e j read' is' why') =
    let same = front_same k m s t rest rest' few read read' (why_halts k m s rest why) (why_halts k m t rest' why') (sym is ∙ is') in
    let here : Why k m s rest' e j = subst (λ (x : Sheet). Why k m x rest' e j) (sym same.0) why' in
    why_same k m s rest why (subst (λ (r : List ℕ). Why k m s r e j) (sym same.1) here)

pub one_fault : OneFault
one_fault k m text d e i j few f g = sorted_same k m text few (sorted k m text f) (sorted k m text g)
