-- What is held from call to call, and the sheet of a list of legs. Assumes nothing.
use Rattle.std.proofs.Common.{◌≡◌, ℕ, ◌+◌, ◌<◌, ◌≤◌, List, [], ◌∷◌, ◌++◌, map, length, get_or, take, drop, false, Some, None, Ok, Option, sym, refl, ap, ◌∙◌, subst, arith}
use Rattle.std.proofs.lemmas.List.{take_more, take_all, drop_more, drop_all, map-append}
use Rattle.std.specs.Result.{is_err}
use Rattle.limits.specs.Refusals.{answer}
use Rattle.limits.specs.declared.refusal.Refusal.{Refusal}
use Rattle.rows.specs.Rows.{Row}
use Rattle.rows.specs.Kinds.{Kind}
use Rattle.sheets.specs.declared.form.Form.{Form}
use Rattle.sheets.specs.declared.numbered.NumberedLeg.{NumberedLeg}
use Rattle.sheets.specs.declared.sheet.BegunSheet.{BegunSheet}
use Rattle.sheets.specs.declared.sheet.ClosedSheet.{ClosedSheet}
use Rattle.sheets.specs.Form.{Numbered, Sheet, sheet_bytes}
use Rattle.sheets.specs.Begun.{Begun, begun, opened, begin_refusal, line_refusal}
use Rattle.sheets.specs.Writing.{numbered_of, Holds, with_line, Begins, Takes, Ends}
use Rattle.sheets.specs.Listing.{listed}

-- what is answered is the value, so nothing is refused
pub accepted : {A : Type 0} (r : Option Refusal) (v x : A) → Ok x ≡ answer r v → (r ≡ None) × (x ≡ v)
accepted (Some e) v x q = let z : ◌≡◌ {A = ℕ} 0 1 = cc in absurd (omega arith)
accepted None v x q = (refl, cc)

-- the answer is no error, so nothing is refused
pub no_error : {A : Type 0} (r : Option Refusal) (v : A) → is_err (answer r v) ≡ false → r ≡ None
no_error (Some e) v q = let z : ◌≡◌ {A = ℕ} 0 1 = cc in absurd (omega arith)
no_error None v q = refl

-- a sheet that was begun is one of no legs
pub begun_held : {k : Kind} {form : Form} {ports : ℕ} {out out' : List ℕ} {b : Begun} → Begins k form ports out (Ok b) out'
    → Holds k (record { form = form; ports = ports; legs = [] }) b out'
begun_held {k = k} {form = form} {ports = ports} {out = out} {out' = out'} {b = b} h =
    let a = accepted (begin_refusal k.places ports (length out)) (opened form ports) b h.answered in
    subst (λ (x : Begun). Holds k (record { form = form; ports = ports; legs = [] }) x out') (sym a.1) (h.holds a.0)

-- a sheet that took a leg is one of that leg more
pub taken_held : {k : Kind} {b b' : Begun} {l : Numbered} {out out' : List ℕ} {s : Sheet} → Takes k b l out (Ok tt) b' out' → Holds k s b out
    → Holds k (with_line s l) b' out'
taken_held {k = k} {b = b} {l = l} {out = out} {s = s} t h = t.holds s h (accepted (line_refusal k b l (length out)) tt tt t.answered).0

-- a sheet that was closed stands in the buffer
pub closed_held : {K : Type 0} {k : Kind} {b : BegunSheet K} {c : ClosedSheet} {out out' : List ℕ} {s : Sheet} → Ends k b out (Ok c) out' → Holds k s (begun b) out
    → take c.length out' ≡ sheet_bytes k.places s
closed_held {out' = out'} {s = s} e h = ap (λ (m : ℕ). take m out') e.answered.1 ∙ e.whole s h e.answered.0

-- the list with one leg more
pub listed_more : {K : Type 0} (row : K → Row) (form : Form) (ports : ℕ) (legs : List (NumberedLeg K)) (i : ℕ) (l : NumberedLeg K) → i < length legs → l ≡ get_or legs i l
    → with_line (listed row form ports (take i legs)) (numbered_of row l) ≡ listed row form ports (take (i + 1) legs)
listed_more {K = K} row form ports legs i l below is =
    let f : NumberedLeg K → Numbered = numbered_of row in
    let more : take (i + 1) legs ≡ take i legs ++ (l ∷ []) = take_more legs i l below ∙ ap (λ x. take i legs ++ (x ∷ [])) (sym is) in
    ap (λ (ls : List Numbered). record { form = form; ports = ports; legs = ls }) (sym (ap (map f) more ∙ map-append f (take i legs) (l ∷ [])))

pub listed_all : {K : Type 0} (row : K → Row) (form : Form) (ports : ℕ) (legs : List (NumberedLeg K)) (i : ℕ) → length legs ≤ i
    → listed row form ports (take i legs) ≡ listed row form ports legs
listed_all row form ports legs i all = ap (listed row form ports) (take_all i legs all)

-- the legs that are left, from a leg on
pub listed_rest : {K : Type 0} (row : K → Row) (form : Form) (ports : ℕ) (legs : List (NumberedLeg K)) (i : ℕ) (l : NumberedLeg K) → i < length legs → l ≡ get_or legs i l
    → (listed row form ports (drop i legs)).legs ≡ numbered_of row l ∷ (listed row form ports (drop (i + 1) legs)).legs
listed_rest {K = K} row form ports legs i l below is =
    ap (map (numbered_of row)) (drop_more legs i l below ∙ ap (λ x. x ∷ drop (i + 1) legs) (sym is))

pub listed_none : {K : Type 0} (row : K → Row) (form : Form) (ports : ℕ) (legs : List (NumberedLeg K)) (i : ℕ) → length legs ≤ i
    → (listed row form ports (drop i legs)).legs ≡ []
listed_none {K = K} row form ports legs i all = ap (map (numbered_of row)) (drop_all i legs all)
