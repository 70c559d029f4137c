-- A text is the front of one sheet at most, where no leg line follows that may come next. Assumes nothing.
use Rattle.std.proofs.Common.{◌≡◌, ℕ, ◌<◌, ◌≤◌, min, List, [], ◌∷◌, ◌++◌, length, pos, Some, None, Option, sym, refl, ap, ◌∙◌, subst, arith}
use Rattle.std.specs.List.{AllByRecursion}
use Rattle.std.proofs.lemmas.List.{append_assoc, append-nil, length-append}
use Rattle.std.proofs.lemmas.Bool.{lt-ltb, le-leb, and_from, cond-true}
use Rattle.limits.specs.Numbers.{most_ports, most_legs, most_hours, most_cost, most_places}
use Rattle.limits.specs.Refusals.{or_refusal}
use Rattle.limits.specs.declared.refusal.Refusal.{Refusal}
use Rattle.limits.specs.declared.refusal.Refusal.TheVariants.{Port, Cost, Hours, Number}
use Rattle.rows.specs.Rows.{Narrow}
use Rattle.rows.specs.Kinds.{Kind}
use Rattle.charts.specs.Meaning.{Figures, Allowed}
use Rattle.charts.specs.Limits.{port_count_refusal, cost_refusal, price_refusal, leg_refusal}
use Rattle.columns.specs.Columns.{Fits}
use Rattle.sheets.specs.declared.form.Form.{Form}
use Rattle.sheets.specs.declared.form.Form.TheVariants.{Chart}
use Rattle.sheets.specs.Form.{number_width, Numbered, Sheet, head_line, leg_line, leg_lines}
use Rattle.sheets.specs.Proper.{least_after, ProperLeg, ProperLegs}
use Rattle.sheets.specs.Begun.{number_refusal_below}
use Rattle.sheets.specs.Writing.{least_past, numbers_of}
use Rattle.sheet_texts.specs.Faults.{Limits, Readable, LegFits, front_bytes, next_leg_refusal}
use Rattle.sheet_texts.proofs.Same.{head_line_same, leg_line_same, ports_fit, proper_leg_fits}

-- the legs of one side are those of the other and others, which then stand before what is left there
data Fork (n : ℕ) (ls ls' : List Numbered) (r r' : List ℕ) : Type 0 where
  right_more : (others : List Numbered) → ls' ≡ ls ++ others → r ≡ leg_lines n others ++ r' → Fork n ls ls' r r'
  left_more : (others : List Numbered) → ls ≡ ls' ++ others → r' ≡ leg_lines n others ++ r → Fork n ls ls' r r'

fork_more : {n : ℕ} {l l' : Numbered} {ls ls' : List Numbered} {r r' : List ℕ} → l ≡ l' → Fork n ls ls' r r' → Fork n (l ∷ ls) (l' ∷ ls') r r'
fork_more same (right_more others legs rest) = right_more others (λ i. sym same i ∷ legs i) rest
fork_more same (left_more others legs rest) = left_more others (λ i. same i ∷ legs i) rest

leg_lines_fork : (k : Kind) (form : Form) (p least least' : ℕ) (ls ls' : List Numbered) (r r' : List ℕ) → p ≤ most_ports → ProperLegs k form p least ls → ProperLegs k form p least' ls'
    → leg_lines k.places ls ++ r ≡ leg_lines k.places ls' ++ r' → Fork k.places ls ls' r r'
unfolding leg_lines
leg_lines_fork k form p least least' [] ls' r r' few proper proper' e = right_more ls' refl e
leg_lines_fork k form p least least' (l ∷ ls) [] r r' few proper proper' e = left_more (l ∷ ls) refl (sym e)
leg_lines_fork k form p least least' (l ∷ ls) (l' ∷ ls') r r' few proper proper' e =
    let n : ℕ = k.places in
    let lines : leg_line n l ++ (leg_lines n ls ++ r) ≡ leg_line n l' ++ (leg_lines n ls' ++ r') =
    sym (append_assoc (leg_line n l) (leg_lines n ls) r) ∙ e ∙ append_assoc (leg_line n l') (leg_lines n ls') r' in
    let both = leg_line_same n l l' (leg_lines n ls ++ r) (leg_lines n ls' ++ r')
    (proper_leg_fits k p least l few proper.0) (proper_leg_fits k p least' l' few proper'.0) proper.0.narrow proper'.0.narrow lines in
    fork_more both.0 (leg_lines_fork k form p (least_after form l.number) (least_after form l'.number) ls ls' r r' few proper.1 proper'.1 both.1)

-- the front of a sheet that can be read, line by line
pub front_parts : (k : Kind) (m : Limits) (s : Sheet) (r : List ℕ) → Readable k m s
    → front_bytes k.places s ++ r ≡ head_line k.places Chart s.ports ++ (leg_lines k.places s.legs ++ r)
front_parts k m s r read =
    append_assoc (head_line k.places s.form s.ports) (leg_lines k.places s.legs) r
    ∙ ap (λ (form : Form). head_line k.places form s.ports ++ (leg_lines k.places s.legs ++ r)) read.chart

pub readable_ports_fit : (k : Kind) (m : Limits) (s : Sheet) → Readable k m s → Fits number_width (pos s.ports)
readable_ports_fit k m s read = ports_fit s.ports read.proper.few_ports

fronts_fork : (k : Kind) (m : Limits) (s t : Sheet) (r r' : List ℕ) → k.places ≤ most_places → Readable k m s → Readable k m t
    → front_bytes k.places s ++ r ≡ front_bytes k.places t ++ r' → (s.ports ≡ t.ports) × Fork k.places s.legs t.legs r r'
fronts_fork k m s t r r' few read read' e =
    let n : ℕ = k.places in
    let both = head_line_same n s.ports t.ports (leg_lines n s.legs ++ r) (leg_lines n t.legs ++ r') few
    (readable_ports_fit k m s read) (readable_ports_fit k m t read') (sym (front_parts k m s r read) ∙ e ∙ front_parts k m t r' read') in
    let forms : t.form ≡ s.form = read'.chart ∙ sym read.chart in
    let proper' : ProperLegs k s.form s.ports 0 t.legs =
    subst (λ (p : ℕ). ProperLegs k s.form p 0 t.legs) (sym both.0) (subst (λ (form : Form). ProperLegs k form t.ports 0 t.legs) forms read'.proper.legs_proper) in
    (both.0, leg_lines_fork k s.form s.ports 0 0 s.legs t.legs r r' read.proper.few_ports read.proper.legs_proper proper' both.1)

sheet_same : {s t : Sheet} → s.form ≡ t.form → s.ports ≡ t.ports → s.legs ≡ t.legs → s ≡ t
sheet_same form ports legs = λ i. record { form = form i; ports = ports i; legs = legs i }

-- a leg between others
proper_between : (k : Kind) (form : Form) (p least : ℕ) (ls : List Numbered) (l : Numbered) (others : List Numbered) → ProperLegs k form p least (ls ++ (l ∷ others))
    → ProperLeg k p (least_past form least ls) l
proper_between k form p least [] l others proper = proper.0
proper_between k form p least (x ∷ ls) l others proper = proper_between k form p (least_after form x.number) ls l others proper.1

all_between : (P : Numbered → Type 0) (ls : List Numbered) (l : Numbered) (others : List Numbered) → AllByRecursion P (ls ++ (l ∷ others)) → P l
all_between P [] l others all = all.0
all_between P (x ∷ ls) l others all = all_between P ls l others all.1

allowed_taken : (k : Kind) (p : ℕ) (f : Figures) → Allowed k p f → leg_refusal k p f ≡ None
allowed_taken k p f a =
    cond-true _ (price_refusal k f.hours f.cost) (Some Port) (and_from _ _ (lt-ltb f.from p a.from_port) (lt-ltb f.to p a.to_port))
    ∙ cond-true _ (cost_refusal k f.cost) (Some Hours) (le-leb f.hours most_hours a.few_hours)
    ∙ cond-true _ None (Some Cost) (le-leb (k.size f.cost) most_cost a.small_cost)

pub ports_taken : (k : Kind) (m : Limits) (s : Sheet) → Readable k m s → port_count_refusal (min m.ports most_ports) s.ports ≡ None
ports_taken k m s read =
    cond-true _ None (Some Port)
    (and_from _ _ (le-leb 1 s.ports read.proper.some_port) (le-leb s.ports (min m.ports most_ports) (omega (arith, read.few_ports, read.proper.few_ports))))

-- a sheet with more legs
abbrev with_more : Sheet → Numbered → List Numbered → Sheet
with_more s l others = record { form = s.form; ports = s.ports; legs = s.legs ++ (l ∷ others) }

-- the leg that comes next in a sheet that can be read is not refused
next_taken : (k : Kind) (m : Limits) (s : Sheet) (l : Numbered) (others : List Numbered) → Readable k m (with_more s l others) → next_leg_refusal k m s l ≡ None
next_taken k m s l others read =
    let proper = proper_between k s.form s.ports 0 s.legs l others read.proper.legs_proper in
    let below : l.number < m.numbers = all_between (λ (x : Numbered). x.number < m.numbers) s.legs l others read.numbers_below in
    let room : length s.legs < most_legs = omega (arith, read.proper.few_legs, length-append s.legs (l ∷ others)) in
    let number : number_refusal_below m.numbers (numbers_of k.places s) l.number ≡ None =
    cond-true _ None (Some Number)
    (and_from _ _ (and_from _ _ (lt-ltb l.number m.numbers below) (le-leb (least_past s.form 0 s.legs) l.number proper.from_least)) (lt-ltb (length s.legs) most_legs room)) in
    ap (λ (r : Option Refusal). or_refusal r (leg_refusal k s.ports l.leg)) number ∙ allowed_taken k s.ports l.leg proper.allowed

-- no leg line follows that may come next
abbrev pub Halts : Kind → Limits → Sheet → List ℕ → Type 0
Halts k m s r =
    (l : Numbered) (more : List ℕ) → LegFits k.places l → Narrow k.places l.leg.cost → next_leg_refusal k m s l ≡ None → r ≡ leg_line k.places l ++ more → ⊥

longer_same : (k : Kind) (m : Limits) (s t : Sheet) (others : List Numbered) (r r' : List ℕ) → Readable k m s → Readable k m t → s.ports ≡ t.ports
    → t.legs ≡ s.legs ++ others → r ≡ leg_lines k.places others ++ r' → Halts k m s r → (s ≡ t) × (r ≡ r')
unfolding leg_lines
longer_same k m s t [] r r' read read' ports legs e halts =
    (sheet_same (read.chart ∙ sym read'.chart) ports (sym (legs ∙ append-nil s.legs)), e)
longer_same k m s t (l ∷ others) r r' read read' ports legs e halts =
    let is : t ≡ with_more s l others = sheet_same (read'.chart ∙ sym read.chart) (sym ports) legs in
    let more : Readable k m (with_more s l others) = subst (Readable k m) is read' in
    let proper = proper_between k s.form s.ports 0 s.legs l others more.proper.legs_proper in
    absurd
    (halts l (leg_lines k.places others ++ r') (proper_leg_fits k s.ports (least_past s.form 0 s.legs) l read.proper.few_ports proper) proper.narrow (next_taken k m s l others more)
    (e ∙ append_assoc (leg_line k.places l) (leg_lines k.places others) r'))

pub front_same : (k : Kind) (m : Limits) (s t : Sheet) (r r' : List ℕ) → k.places ≤ most_places → Readable k m s → Readable k m t → Halts k m s r → Halts k m t r'
    → front_bytes k.places s ++ r ≡ front_bytes k.places t ++ r' → (s ≡ t) × (r ≡ r')
front_same k m s t r r' few read read' halts halts' e =
    let both = fronts_fork k m s t r r' few read read' e in
    by_fork both.0 both.1
  where
    by_fork : s.ports ≡ t.ports → Fork k.places s.legs t.legs r r' → (s ≡ t) × (r ≡ r')
    by_fork ports (right_more others legs rest) = longer_same k m s t others r r' read read' ports legs rest halts
    by_fork ports (left_more others legs rest) =
        let back = longer_same k m t s others r' r read' read (sym ports) legs rest halts' in
        (sym back.0, sym back.1)
