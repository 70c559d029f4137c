-- A text begins with one line at most, and the lines of a sheet that can be read fit their columns. Assumes nothing.
use Rattle.std.proofs.Common.{◌≡◌, ℕ, zero, suc, ◌*◌, ◌≤◌, List, [], ◌∷◌, ◌++◌, length, get_or, drop, pos, sym, refl, ap, ◌∙◌, arith}
use Rattle.std.proofs.lemmas.List.{append_cancel_left}
use Rattle.limits.specs.Numbers.{most_ports, most_hours, most_cost, most_places}
use Rattle.rows.specs.Rows.{Row, zero_row, sum, place, Narrow}
use Rattle.rows.specs.Kinds.{Kind}
use Rattle.columns.specs.Columns.{Fits}
use Rattle.columns.proofs.Columns.{shows_same, fits_unsigned, fits_signed}
use Rattle.sheets.specs.declared.form.Form.{Form}
use Rattle.sheets.specs.declared.form.Form.TheVariants.{Chart}
use Rattle.sheets.specs.Places.{largest}
use Rattle.sheets.specs.Form.{number_width, hours_width, cost_width, summed_hours_width, summed_cost_width, form_letter, leg_letter, end_letter, Numbered, Sheet, head_line, leg_line, end_line, summed_hours, summed_cost}
use Rattle.sheets.specs.Proper.{least_after, ProperLeg, ProperLegs}
use Rattle.sheets.proofs.Sums.{largest_sum, rows_same}
use Rattle.sheets.proofs.Writing.{place_small}
use Rattle.sheet_texts.specs.Columns.{LegColumns, EndColumns}
use Rattle.sheet_texts.specs.Faults.{Limits, Readable, LegFits, last_line}
use Rattle.sheet_texts.proofs.Lines.{head_parts, leg_parts, end_parts, head_line_columns, leg_line_columns, end_line_columns}

pos_same : {a b : ℕ} → pos a ≡ pos b → a ≡ b
pos_same e = cc

numbered_same : {l l' : Numbered} → l.number ≡ l'.number → l.leg.from ≡ l'.leg.from → l.leg.to ≡ l'.leg.to → l.leg.hours ≡ l'.leg.hours → l.leg.cost ≡ l'.leg.cost → l ≡ l'
numbered_same number from to hours cost = λ i. record { number = number i; leg = record { from = from i; to = to i; hours = hours i; cost = cost i } }

-- columns show one leg
pub leg_columns_same : (n : ℕ) (l l' : Numbered) (cols : List ℕ) → Narrow n l.leg.cost → Narrow n l'.leg.cost → LegColumns n cols l → LegColumns n cols l' → l ≡ l'
leg_columns_same n l l' cols narrow narrow' c c' =
    numbered_same
    (pos_same (shows_same c.number_shown c'.number_shown))
    (pos_same (shows_same c.from_shown c'.from_shown))
    (pos_same (shows_same c.to_shown c'.to_shown))
    (pos_same (shows_same c.hours_shown c'.hours_shown))
    (rows_same n l.leg.cost l'.leg.cost (λ i lt. shows_same (c.cost_shown i lt) (c'.cost_shown i lt)) narrow narrow')

-- a text that begins with a line begins with its letter
head_starts : (n p : ℕ) (rest : List ℕ) → form_letter Chart ∷ drop 1 (head_line n Chart p ++ rest) ≡ head_line n Chart p ++ rest
head_starts n p rest =
    let e = head_parts n p rest in
    ap (λ (bytes : List ℕ). form_letter Chart ∷ drop 1 bytes) e ∙ sym e

leg_starts : (n : ℕ) (l : Numbered) (rest : List ℕ) → leg_letter ∷ drop 1 (leg_line n l ++ rest) ≡ leg_line n l ++ rest
leg_starts n l rest =
    let e = leg_parts n l rest in
    ap (λ (bytes : List ℕ). leg_letter ∷ drop 1 bytes) e ∙ sym e

pub head_line_same : (n p q : ℕ) (r r' : List ℕ) → n ≤ most_places → Fits number_width (pos p) → Fits number_width (pos q)
    → head_line n Chart p ++ r ≡ head_line n Chart q ++ r' → (p ≡ q) × (r ≡ r')
head_line_same n p q r r' few fits fits' e =
    let cols : List ℕ = drop 1 (head_line n Chart p ++ r) in
    let c = head_line_columns n p cols r few fits (head_starts n p r) in
    let c' = head_line_columns n q cols r' few fits' (head_starts n p r ∙ e) in
    let same : p ≡ q = pos_same (shows_same c.ports_shown c'.ports_shown) in
    (same, append_cancel_left (head_line n Chart p) r r' (e ∙ ap (λ (x : ℕ). head_line n Chart x ++ r') (sym same)))

pub leg_line_same : (n : ℕ) (l l' : Numbered) (r r' : List ℕ) → LegFits n l → LegFits n l' → Narrow n l.leg.cost → Narrow n l'.leg.cost
    → leg_line n l ++ r ≡ leg_line n l' ++ r' → (l ≡ l') × (r ≡ r')
leg_line_same n l l' r r' fits fits' narrow narrow' e =
    let cols : List ℕ = drop 1 (leg_line n l ++ r) in
    let c = leg_line_columns n l cols r fits (leg_starts n l r) in
    let c' = leg_line_columns n l' cols r' fits' (leg_starts n l r ∙ e) in
    let same : l ≡ l' = leg_columns_same n l l' cols narrow narrow' c c' in
    (same, append_cancel_left (leg_line n l) r r' (e ∙ ap (λ (x : Numbered). leg_line n x ++ r') (sym same)))

-- the letters of a leg line and of an end line differ
pub leg_no_end : (n m : ℕ) (l : Numbered) (legs hours : ℕ) (cost : Row) (r r' : List ℕ) → leg_line n l ++ r ≡ end_line m legs hours cost ++ r' → ⊥
leg_no_end n m l legs hours cost r r' e =
    let letters : leg_letter ≡ end_letter = ap (λ (bytes : List ℕ). get_or bytes 0 0) (sym (leg_parts n l r) ∙ e ∙ end_parts m legs hours cost r') in
    omega arith

-- a number of ports fits its column
pub ports_fit : (p : ℕ) → p ≤ most_ports → Fits number_width (pos p)
ports_fit p few = fits_unsigned number_width p (omega arith) (omega arith)

pub proper_leg_fits : (k : Kind) (p least : ℕ) (l : Numbered) → p ≤ most_ports → ProperLeg k p least l → LegFits k.places l
proper_leg_fits k p least l few proper = record {
  number_fits = fits_unsigned number_width l.number (omega arith) (omega (arith, proper.below_limit));
  from_fits = fits_unsigned number_width l.leg.from (omega arith) (omega (arith, proper.allowed.from_port));
  to_fits = fits_unsigned number_width l.leg.to (omega arith) (omega (arith, proper.allowed.to_port));
  hours_fits = fits_unsigned hours_width l.leg.hours (omega arith) (omega (arith, proper.allowed.few_hours));
  cost_fits = λ i _. fits_signed cost_width (place l.leg.cost i) (omega arith) (omega (arith, place_small l.leg.cost i, proper.small));
}

place_sum : (a b : Row) (i : ℕ) → place a i ≡ pos 0 → place b i ≡ pos 0 → place (sum a b) i ≡ pos 0
unfolding sum
place_sum a b zero p q = rw (p, q)
place_sum a b (suc zero) p q = rw (p, q)
place_sum a b (suc (suc zero)) p q = rw (p, q)
place_sum a b (suc (suc (suc zero))) p q = rw (p, q)
place_sum a b (suc (suc (suc (suc i)))) p q = p

place_zero : (i : ℕ) → place zero_row i ≡ pos 0
unfolding zero_row
place_zero zero = refl
place_zero (suc zero) = refl
place_zero (suc (suc zero)) = refl
place_zero (suc (suc (suc zero))) = refl
place_zero (suc (suc (suc (suc i)))) = refl

largest_zero : largest zero_row ≡ 0
unfolding zero_row
largest_zero = omega arith

-- the sums over proper legs
legs_narrow : (k : Kind) (form : Form) (p least : ℕ) (ls : List Numbered) → ProperLegs k form p least ls → Narrow k.places (summed_cost ls)
legs_narrow k form p least [] proper i past = place_zero i
legs_narrow k form p least (l ∷ ls) proper i past =
    place_sum l.leg.cost (summed_cost ls) i (proper.0.narrow i past) (legs_narrow k form p (least_after form l.number) ls proper.1 i past)

legs_timed : (k : Kind) (form : Form) (p least : ℕ) (ls : List Numbered) → ProperLegs k form p least ls → summed_hours ls ≤ length ls * most_hours
legs_timed k form p least [] proper = omega arith
legs_timed k form p least (l ∷ ls) proper = omega (arith, proper.0.allowed.few_hours, legs_timed k form p (least_after form l.number) ls proper.1)

legs_priced : (k : Kind) (form : Form) (p least : ℕ) (ls : List Numbered) → ProperLegs k form p least ls → largest (summed_cost ls) ≤ length ls * most_cost
legs_priced k form p least [] proper = omega (arith, largest_zero)
legs_priced k form p least (l ∷ ls) proper =
    let whole = largest_sum l.leg.cost (summed_cost ls) in
    let rest = legs_priced k form p (least_after form l.number) ls proper.1 in
    omega (arith, proper.0.small)

pub summed_narrow : (k : Kind) (m : Limits) (s : Sheet) → Readable k m s → Narrow k.places (summed_cost s.legs)
summed_narrow k m s read = legs_narrow k s.form s.ports 0 s.legs read.proper.legs_proper

-- the end line of a sheet that can be read fits its columns
pub last_line_columns : (k : Kind) (m : Limits) (s : Sheet) (cols more : List ℕ) → k.places ≤ most_places → Readable k m s → end_letter ∷ cols ≡ last_line k.places s ++ more
    → EndColumns k.places cols (length s.legs) (summed_hours s.legs) (summed_cost s.legs)
last_line_columns k m s cols more few read e =
    let legs = read.proper.few_legs in
    let hours = legs_timed k s.form s.ports 0 s.legs read.proper.legs_proper in
    let cost = legs_priced k s.form s.ports 0 s.legs read.proper.legs_proper in
    end_line_columns k.places (length s.legs) (summed_hours s.legs) (summed_cost s.legs) cols more
    (fits_unsigned number_width (length s.legs) (omega arith) (omega arith))
    (fits_unsigned summed_hours_width (summed_hours s.legs) (omega arith) (omega arith))
    (λ i _. fits_signed summed_cost_width (place (summed_cost s.legs) i) (omega arith) (omega (arith, place_small (summed_cost s.legs) i)))
    e
