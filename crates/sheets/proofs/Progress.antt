-- How far a sheet of a list of legs is put. Assumes nothing.
use Rattle.std.proofs.Common.{◌≡◌, ℕ, ◌+◌, ◌≤◌, min, cond, List, [], ◌∷◌, ◌++◌, length, drop, replicate, Some, None, Ok, Err, Option, sym, ap, ◌∙◌, subst, arith}
use Rattle.std.proofs.lemmas.List.{append_assoc, append-nil, length-take-le, drop_at}
use Rattle.std.proofs.lemmas.Bool.{le-leb}
use Rattle.limits.specs.Refusals.{or_refusal, if_refused, answer}
use Rattle.limits.specs.declared.refusal.Refusal.{Refusal}
use Rattle.limits.specs.declared.refusal.Refusal.TheVariants.{Length}
use Rattle.rows.specs.Kinds.{Kind}
use Rattle.columns.specs.Put.{put}
use Rattle.columns.proofs.Puts.{put_after, length_put}
use Rattle.sheets.specs.declared.form.Form.{Form}
use Rattle.sheets.specs.declared.sheet.BegunSheet.{BegunSheet}
use Rattle.sheets.specs.declared.sheet.ClosedSheet.{ClosedSheet}
use Rattle.sheets.specs.Form.{Numbered, Sheet, head_line, leg_line, leg_lines, end_line, sheet_bytes}
use Rattle.sheets.specs.Begun.{Begun, begun, opened, with_leg, begin_refusal, line_refusal, closed_length}
use Rattle.sheets.specs.Writing.{Holds, with_line, Begins, Takes, Ends, struck}
use Rattle.sheets.specs.Listing.{lines_refusal, sheet_refusal, PutsSheet}
use Rattle.sheets.proofs.Taken.{some_no_none, begin_taken, line_taken}
use Rattle.sheets.proofs.Held.{leg_lines_more}
use Rattle.sheets.proofs.Whole.{accepted, begun_held, taken_held, closed_held}

refused : {A : Type 0} (r : Option Refusal) (v : A) (e : Refusal) → Err e ≡ answer r v → r ≡ Some e
refused (Some x) v e q = cc
refused None v e q = let z : ◌≡◌ {A = ℕ} 0 1 = cc in absurd (omega arith)

struck_within : (m : ℕ) (xs : List ℕ) → m ≤ length xs → struck m xs ≡ replicate m 0 ++ drop m xs
struck_within m xs within =
    let all : min m (length xs) ≡ m = omega arith in
    ap (λ (j : ℕ). replicate j 0 ++ drop j xs) all

-- bytes put at the front and struck leave no trace
struck_put : (out s : List ℕ) (m : ℕ) → length s ≡ m → m ≤ length out → struck m (put out 0 s) ≡ struck m out
unfolding put
struck_put out s m len within =
    struck_within m (put out 0 s) (omega (arith, length_put out s 0 (omega arith)))
    ∙ ap (λ (rest : List ℕ). replicate m 0 ++ rest) (drop_at s (drop (0 + length s) out) m len ∙ ap (λ (j : ℕ). drop j out) (omega arith))
    ∙ sym (struck_within m out within)

module _ (k : Kind) where
  -- the first line and the leg lines
  abbrev front : Sheet → List ℕ
  front s = head_line k.places s.form s.ports ++ leg_lines k.places s.legs

  -- of a sheet s, `done` is put into the buffer `out`, which is now `out'`, and the legs `rest` are left
  pub record Progress (s done : Sheet) (rest : List Numbered) (out : List ℕ) (b : Begun) (out' : List ℕ) : Type 0 where
    pub held : Holds k done b out'
    pub bytes : out' ≡ put out 0 (front done)
    pub room : closed_length k.places b ≤ length out
    pub same_length : length out' ≡ length out
    pub refusal : sheet_refusal k s (length out) ≡ lines_refusal k b rest (length out)

  length_front : {s done : Sheet} {rest : List Numbered} {out out' : List ℕ} {b : Begun} → Progress s done rest out b out' → length (front done) ≡ b.end
  length_front {out' = out'} {b = b} p = sym (ap length p.held.front) ∙ length-take-le b.end out' (omega (arith, p.room, p.same_length))

  pub progress_begun : {form : Form} {ports : ℕ} {out out' : List ℕ} {b : Begun} (legs : List Numbered) → Begins k form ports out (Ok b) out' → length out' ≡ length out
      → Progress (record { form = form; ports = ports; legs = legs }) (record { form = form; ports = ports; legs = [] }) legs out b out'
  unfolding leg_lines
  progress_begun {form = form} {ports = ports} {out = out} {b = b} legs h len =
      let a = accepted (begin_refusal k.places ports (length out)) (opened form ports) b h.answered in
      let head = head_line k.places form ports in
      record {
        held = begun_held h;
        bytes = h.bytes ∙ ap (λ o. if_refused o out (put out 0 head)) a.0 ∙ ap (put out 0) (sym (append-nil head));
        room = omega (arith, ap (λ (x : Begun). x.end) a.1, (begin_taken k.places ports (length out) a.0).2);
        same_length = len;
        refusal = ap (λ o. or_refusal o (lines_refusal k (opened form ports) legs (length out))) a.0 ∙ ap (λ (x : Begun). lines_refusal k x legs (length out)) (sym a.1);
      }

  pub progress_taken : {s done : Sheet} {l : Numbered} {rest : List Numbered} {out out' out'' : List ℕ} {b b' : Begun} → Takes k b l out' (Ok tt) b' out''
      → Progress s done (l ∷ rest) out b out' → length out'' ≡ length out' → Progress s (with_line done l) rest out b' out''
  progress_taken {done = done} {l = l} {rest = rest} {out = out} {out' = out'} {b = b} t p len =
      let n : ℕ = k.places in
      let none = (accepted (line_refusal k b l (length out')) tt tt t.answered).0 in
      let sheet = t.sheet ∙ ap (λ o. if_refused o b (with_leg n b l)) none in
      let same = subst (λ (m : ℕ). line_refusal k b l m ≡ None) p.same_length none in
      record {
        held = taken_held t p.held;
        bytes =
            t.bytes ∙ ap (λ o. if_refused o out' (put out' b.end (leg_line n l))) none
            ∙ ap (λ (xs : List ℕ). put xs b.end (leg_line n l)) p.bytes
            ∙ put_after out (front done) (leg_line n l) 0 b.end (omega (arith, length_front p)) (omega arith)
            ∙ ap (put out 0) (append_assoc (head_line n done.form done.ports) (leg_lines n done.legs) (leg_line n l)
            ∙ ap (λ (lines : List ℕ). head_line n done.form done.ports ++ lines) (sym (leg_lines_more n done.legs l)));
        room = omega (arith, ap (λ (x : Begun). x.end) sheet, (line_taken k b l (length out') none).room, p.same_length);
        same_length = len ∙ p.same_length;
        refusal =
            p.refusal ∙ ap (λ o. or_refusal o (lines_refusal k (with_leg n b l) rest (length out))) same ∙ ap (λ (x : Begun). lines_refusal k x rest (length out)) (sym sheet);
      }

  put_not : (s : Sheet) (out out' : List ℕ) (e : Refusal) (m : ℕ) → sheet_refusal k s (length out) ≡ Some e → out' ≡ struck m out → PutsSheet k s out (Err e) out'
  put_not s out out' e m is zeros =
      record {
        answered = sym (ap (λ o. answer o (length (sheet_bytes k.places s))) is);
        bytes = λ none. some_no_none (sym is ∙ none);
        zeros = λ _ _. (m, zeros);
        proper = λ none. some_no_none (sym is ∙ none);
      }

  pub not_begun : {form : Form} {ports : ℕ} {out out' : List ℕ} {e : Refusal} (legs : List Numbered) → Begins k form ports out (Err e) out'
      → PutsSheet k (record { form = form; ports = ports; legs = legs }) out (Err e) out'
  not_begun {form = form} {ports = ports} {out = out} {out' = out'} {e = e} legs h =
      let is = refused (begin_refusal k.places ports (length out)) (opened form ports) e h.answered in
      put_not (record { form = form; ports = ports; legs = legs }) out out' e 0
      (ap (λ o. or_refusal o (lines_refusal k (opened form ports) legs (length out))) is)
      (h.bytes ∙ ap (λ o. if_refused o out (put out 0 (head_line k.places form ports))) is ∙ sym (struck_within 0 out (omega arith)))

  pub not_taken : {s done : Sheet} {l : Numbered} {rest : List Numbered} {out out' out'' : List ℕ} {b b' : Begun} {e : Refusal} (end : List ℕ) → Takes k b l out' (Err e) b' out''
      → Progress s done (l ∷ rest) out b out' → end ≡ struck b'.end out'' → PutsSheet k s out (Err e) end
  not_taken {s = s} {done = done} {l = l} {rest = rest} {out = out} {out' = out'} {out'' = out''} {b = b} {e = e} end t p is =
      let n : ℕ = k.places in
      let why = refused (line_refusal k b l (length out')) tt e t.answered in
      let same_b = t.sheet ∙ ap (λ o. if_refused o b (with_leg n b l)) why in
      let same_out = t.bytes ∙ ap (λ o. if_refused o out' (put out' b.end (leg_line n l))) why ∙ p.bytes in
      put_not s out end e b.end
      (p.refusal ∙ ap (λ o. or_refusal o (lines_refusal k (with_leg n b l) rest (length out))) (subst (λ (m : ℕ). line_refusal k b l m ≡ Some e) p.same_length why))
      (is ∙ ap (λ (x : Begun). struck x.end out'') same_b ∙ ap (struck b.end) same_out ∙ struck_put out (front done) b.end (length_front p) (omega (arith, p.room)))

  pub all_put : {K : Type 0} {s : Sheet} {out out' out'' : List ℕ} {b : BegunSheet K} {c : ClosedSheet} → Ends k b out' (Ok c) out'' → Progress s s [] out (begun b) out'
      → length out'' ≡ length out' → PutsSheet k s out (Ok c.length) out''
  unfolding sheet_bytes
  all_put {s = s} {out = out} {out' = out'} {out'' = out''} {b = b} {c = c} e p kept =
      let n : ℕ = k.places in
      let last = end_line n (begun b).legs (begun b).hours (begun b).cost in
      let none = e.answered.0 in
      let bytes : out'' ≡ put out 0 (sheet_bytes n s) =
      e.bytes ∙ ap (λ o. if_refused o out' (put out' (begun b).end last)) none
      ∙ ap (λ (xs : List ℕ). put xs (begun b).end last) p.bytes
      ∙ put_after out (front s) last 0 (begun b).end (omega (arith, length_front p)) (omega arith)
      ∙ ap (λ (x : Begun). put out 0 (front s ++ end_line n x.legs x.hours x.cost)) p.held.numbers in
      let len : c.length ≡ length (sheet_bytes n s) =
      sym (length-take-le c.length out'' (omega (arith, e.answered.1, p.room, p.same_length, kept))) ∙ ap length (closed_held e p.held) in
      record {
        answered = ap Ok len ∙ sym (ap (λ o. answer o (length (sheet_bytes n s))) p.refusal);
        bytes = λ _. bytes;
        zeros = λ _ is. some_no_none (sym is ∙ p.refusal);
        proper = λ _. p.held.proper;
      }

  pub none_short : {A : Type 0} {K : Type 0} {s done : Sheet} {rest : List Numbered} {out out' out'' : List ℕ} {b b' : BegunSheet K} → Ends k b out' (Err b') out''
      → Progress s done rest out (begun b) out' → A
  none_short {out' = out'} {b = b} e p =
      let fits = le-leb (closed_length k.places (begun b)) (length out') (omega (arith, p.room, p.same_length)) in
      some_no_none (sym e.answered.0 ∙ ap (λ t. cond t None (Some Length)) fits)
