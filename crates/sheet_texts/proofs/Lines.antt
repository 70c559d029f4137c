-- A text that has the columns of a line begins with that line, and a text that begins with a line has its columns. Assumes nothing.
use Rattle.std.proofs.Common.{◌≡◌, ℕ, zero, suc, ◌+◌, ◌*◌, ◌<◌, ◌≤◌, List, [], ◌∷◌, ◌++◌, length, get_or, drop, pos, sym, ap, ◌∙◌, subst, ⊎_elim, mul-zero, mul-suc, arith}
use Rattle.std.proofs.lemmas.List.Prefix.{at_reads}
use Rattle.std.proofs.lemmas.List.{append_assoc, drop_more, get_or_past}
use Rattle.std.proofs.lemmas.Bool.{cases_lt}
use Rattle.limits.specs.Numbers.{most_places}
use Rattle.rows.specs.Rows.{Row, place}
use Rattle.columns.specs.Columns.{widest, column, Fits, Shows}
use Rattle.columns.proofs.Columns.{then_shows, then_rest, shows_then, shows_fits, fits_unsigned}
use Rattle.sheets.specs.declared.form.Form.TheVariants.{Chart}
use Rattle.sheets.specs.Form.{number_width, hours_width, cost_width, summed_hours_width, summed_cost_width, line_feed, form_letter, leg_letter, end_letter, Numbered, place_columns, head_line, leg_line, end_line, head_length, leg_length, end_length}
use Rattle.sheet_texts.specs.Columns.{ShowsPlaces, HeadColumns, LegColumns, EndColumns}
use Rattle.sheet_texts.specs.Faults.{LegFits}

-- a line feed is read only within a text
feed_within : (text : List ℕ) (at : ℕ) → get_or text at 0 ≡ line_feed → at < length text
feed_within text at e =
    ⊎_elim (λ lt. lt) (λ past. absurd (omega (arith, get_or_past text at 0 past))) (cases_lt at (length text))

feed_then : (text : List ℕ) (at : ℕ) → get_or text at 0 ≡ line_feed → drop at text ≡ line_feed ∷ drop (at + 1) text
feed_then text at e = drop_more text at 0 (feed_within text at e) ∙ ap (λ (b : ℕ). b ∷ drop (at + 1) text) e

then_feed : (text rest : List ℕ) (at : ℕ) → drop at text ≡ line_feed ∷ rest → get_or text at 0 ≡ line_feed
then_feed text rest at e =
    let here : at ≡ at + 0 = omega arith in
    ap (λ (i : ℕ). get_or text i 0) here ∙ at_reads 0 text (line_feed ∷ []) at rest e 0 (omega arith)

-- a text that shows the places of a row has their columns, and the other way round
places_then : (text : List ℕ) (at w n : ℕ) (r : Row) → ShowsPlaces text at w n r → drop at text ≡ place_columns w n r ++ drop (at + w * n) text
unfolding place_columns
places_then text at w zero r shown = ap (λ (i : ℕ). drop i text) (omega (arith, mul-zero w))
places_then text at w (suc n) r shown =
    places_then text at w n r (λ i lt. shown i (omega arith))
    ∙ ap (λ (rest : List ℕ). place_columns w n r ++ rest) (shows_then (shown n (omega arith)))
    ∙ sym (append_assoc (place_columns w n r) (column w (place r n)) (drop (at + w * n + w) text))
    ∙ ap (λ (i : ℕ). place_columns w n r ++ column w (place r n) ++ drop i text) (omega (arith, mul-suc w n))

then_places : (text rest : List ℕ) (at w n : ℕ) (r : Row) → w ≤ widest → ((i : ℕ) → i < n → Fits w (place r i)) → drop at text ≡ place_columns w n r ++ rest
    → ShowsPlaces text at w n r × (drop (at + w * n) text ≡ rest)
unfolding place_columns
then_places text rest at w zero r narrow fits e = (λ i lt. absurd (omega arith), ap (λ (i : ℕ). drop i text) (omega (arith, mul-zero w)) ∙ e)
then_places text rest at w (suc n) r narrow fits e =
    let front = then_places text (column w (place r n) ++ rest) at w n r narrow (λ i lt. fits i (omega arith)) (e ∙ append_assoc (place_columns w n r) (column w (place r n)) rest) in
    let last = then_shows text rest (at + w * n) w (place r n) narrow (fits n (omega arith)) front.1 in
    let on : at + w * suc n ≡ at + w * n + w = omega (arith, mul-suc w n) in (
      λ i lt. ⊎_elim (front.0 i) (λ past. let is : n ≡ i = omega arith in subst (λ (j : ℕ). Shows text (at + w * j) w (place r j)) is last) (cases_lt i n),
      ap (λ (i : ℕ). drop i text) on ∙ then_rest text rest (at + w * n) w (place r n) (fits n (omega arith)) front.1,
    )

-- a line and what follows it, column by column
pub head_parts : (n p : ℕ) (rest : List ℕ)
    → head_line n Chart p ++ rest ≡ form_letter Chart ∷ (column number_width (pos p) ++ (column number_width (pos n) ++ (line_feed ∷ rest)))
unfolding head_line
head_parts n p rest = simp append_assoc

pub leg_parts : (n : ℕ) (l : Numbered) (rest : List ℕ)
    → leg_line n l ++ rest
    ≡ leg_letter ∷ (column number_width (pos l.number) ++ (column number_width (pos l.leg.from) ++ (column number_width (pos l.leg.to) ++ (column hours_width (pos l.leg.hours) ++ (place_columns cost_width n l.leg.cost ++ (line_feed ∷ rest))))))
unfolding leg_line
leg_parts n l rest = simp append_assoc

pub end_parts : (n legs hours : ℕ) (cost : Row) (rest : List ℕ)
    → end_line n legs hours cost ++ rest
    ≡ end_letter ∷ (column number_width (pos legs) ++ (column summed_hours_width (pos hours) ++ (place_columns summed_cost_width n cost ++ (line_feed ∷ rest))))
unfolding end_line
end_parts n legs hours cost rest = simp append_assoc

pub head_columns_line : (n p : ℕ) (cols : List ℕ) → HeadColumns n cols p → form_letter Chart ∷ cols ≡ head_line n Chart p ++ drop head_length (form_letter Chart ∷ cols)
head_columns_line n p cols c =
    let first : cols ≡ column number_width (pos p) ++ drop number_width cols = shows_then c.ports_shown in
    let second = shows_then c.places_shown in
    let third = feed_then cols (2 * number_width) c.line_ends in
    ap (λ (bytes : List ℕ). form_letter Chart ∷ bytes)
    (first ∙ ap (λ (bytes : List ℕ). column number_width (pos p) ++ bytes) (second ∙ ap (λ (bytes : List ℕ). column number_width (pos n) ++ bytes) third))
    ∙ sym (head_parts n p (drop head_length (form_letter Chart ∷ cols)))

pub head_line_columns : (n p : ℕ) (cols rest : List ℕ) → n ≤ most_places → Fits number_width (pos p) → form_letter Chart ∷ cols ≡ head_line n Chart p ++ rest → HeadColumns n cols p
head_line_columns n p cols rest few fits e =
    let fits_n : Fits number_width (pos n) = fits_unsigned number_width n (omega arith) (omega arith) in
    let past_n : List ℕ = line_feed ∷ rest in
    let past_p : List ℕ = column number_width (pos n) ++ past_n in
    let from_p : drop 0 cols ≡ column number_width (pos p) ++ past_p = ap (drop 1) (e ∙ head_parts n p rest) in
    let from_n = then_rest cols past_p 0 number_width (pos p) fits from_p in
    record {
      ports_shown = then_shows cols past_p 0 number_width (pos p) (omega arith) fits from_p;
      places_shown = then_shows cols past_n number_width number_width (pos n) (omega arith) fits_n from_n;
      line_ends = then_feed cols rest (2 * number_width) (then_rest cols past_n number_width number_width (pos n) fits_n from_n);
    }

pub leg_columns_fit : (n : ℕ) (l : Numbered) (cols : List ℕ) → LegColumns n cols l → LegFits n l
leg_columns_fit n l cols c = record {
  number_fits = shows_fits c.number_shown;
  from_fits = shows_fits c.from_shown;
  to_fits = shows_fits c.to_shown;
  hours_fits = shows_fits c.hours_shown;
  cost_fits = λ i lt. shows_fits (c.cost_shown i lt);
}

pub leg_columns_line : (n : ℕ) (l : Numbered) (cols : List ℕ) → LegColumns n cols l → leg_letter ∷ cols ≡ leg_line n l ++ drop (leg_length n) (leg_letter ∷ cols)
leg_columns_line n l cols c =
    let number : List ℕ = column number_width (pos l.number) in
    let from : List ℕ = column number_width (pos l.leg.from) in
    let to : List ℕ = column number_width (pos l.leg.to) in
    let hours : List ℕ = column hours_width (pos l.leg.hours) in
    let cost : List ℕ = place_columns cost_width n l.leg.cost in
    let end : ℕ = 3 * number_width + hours_width + cost_width * n in
    let whole : suc (end + 1) ≡ leg_length n = omega arith in
    let at_number : cols ≡ number ++ drop number_width cols = shows_then c.number_shown in
    let at_from : drop number_width cols ≡ from ++ drop (2 * number_width) cols = shows_then c.from_shown in
    let at_to : drop (2 * number_width) cols ≡ to ++ drop (3 * number_width) cols = shows_then c.to_shown in
    let at_hours : drop (3 * number_width) cols ≡ hours ++ drop (3 * number_width + hours_width) cols = shows_then c.hours_shown in
    let at_cost : drop (3 * number_width + hours_width) cols ≡ cost ++ drop end cols = places_then cols (3 * number_width + hours_width) cost_width n l.leg.cost c.cost_shown in
    let at_end : drop end cols ≡ line_feed ∷ drop (leg_length n) (leg_letter ∷ cols) =
    feed_then cols end c.line_ends ∙ ap (λ (i : ℕ). line_feed ∷ drop i (leg_letter ∷ cols)) whole in
    let after : List ℕ → List ℕ → List ℕ = λ front bytes. front ++ bytes in
    ap (λ (bytes : List ℕ). leg_letter ∷ bytes)
    (at_number ∙ ap (after number) (at_from ∙ ap (after from) (at_to ∙ ap (after to) (at_hours ∙ ap (after hours) (at_cost ∙ ap (after cost) at_end)))))
    ∙ sym (leg_parts n l (drop (leg_length n) (leg_letter ∷ cols)))

pub leg_line_columns : (n : ℕ) (l : Numbered) (cols rest : List ℕ) → LegFits n l → leg_letter ∷ cols ≡ leg_line n l ++ rest → LegColumns n cols l
leg_line_columns n l cols rest fits e =
    let past_cost : List ℕ = line_feed ∷ rest in
    let past_hours : List ℕ = place_columns cost_width n l.leg.cost ++ past_cost in
    let past_to : List ℕ = column hours_width (pos l.leg.hours) ++ past_hours in
    let past_from : List ℕ = column number_width (pos l.leg.to) ++ past_to in
    let past_number : List ℕ = column number_width (pos l.leg.from) ++ past_from in
    let at_number : drop 0 cols ≡ column number_width (pos l.number) ++ past_number = ap (drop 1) (e ∙ leg_parts n l rest) in
    let at_from = then_rest cols past_number 0 number_width (pos l.number) fits.number_fits at_number in
    let at_to = then_rest cols past_from number_width number_width (pos l.leg.from) fits.from_fits at_from in
    let at_hours = then_rest cols past_to (2 * number_width) number_width (pos l.leg.to) fits.to_fits at_to in
    let at_cost = then_rest cols past_hours (3 * number_width) hours_width (pos l.leg.hours) fits.hours_fits at_hours in
    let costs = then_places cols past_cost (3 * number_width + hours_width) cost_width n l.leg.cost (omega arith) fits.cost_fits at_cost in
    record {
      number_shown = then_shows cols past_number 0 number_width (pos l.number) (omega arith) fits.number_fits at_number;
      from_shown = then_shows cols past_from number_width number_width (pos l.leg.from) (omega arith) fits.from_fits at_from;
      to_shown = then_shows cols past_to (2 * number_width) number_width (pos l.leg.to) (omega arith) fits.to_fits at_to;
      hours_shown = then_shows cols past_hours (3 * number_width) hours_width (pos l.leg.hours) (omega arith) fits.hours_fits at_hours;
      cost_shown = costs.0;
      line_ends = then_feed cols rest (3 * number_width + hours_width + cost_width * n) costs.1;
    }

pub end_columns_line : (n legs hours : ℕ) (cost : Row) (cols : List ℕ) → EndColumns n cols legs hours cost
    → end_letter ∷ cols ≡ end_line n legs hours cost ++ drop (end_length n) (end_letter ∷ cols)
end_columns_line n legs hours cost cols c =
    let end : ℕ = number_width + summed_hours_width + summed_cost_width * n in
    let whole : suc (end + 1) ≡ end_length n = omega arith in
    let at_legs : cols ≡ column number_width (pos legs) ++ drop number_width cols = shows_then c.legs_shown in
    let at_hours : drop number_width cols ≡ column summed_hours_width (pos hours) ++ drop (number_width + summed_hours_width) cols = shows_then c.hours_shown in
    let at_cost : drop (number_width + summed_hours_width) cols ≡ place_columns summed_cost_width n cost ++ drop end cols =
    places_then cols (number_width + summed_hours_width) summed_cost_width n cost c.cost_shown in
    let at_end : drop end cols ≡ line_feed ∷ drop (end_length n) (end_letter ∷ cols) =
    feed_then cols end c.line_ends ∙ ap (λ (i : ℕ). line_feed ∷ drop i (end_letter ∷ cols)) whole in
    let after : List ℕ → List ℕ → List ℕ = λ front bytes. front ++ bytes in
    ap (λ (bytes : List ℕ). end_letter ∷ bytes)
    (at_legs ∙ ap (after (column number_width (pos legs))) (at_hours ∙ ap (after (column summed_hours_width (pos hours))) (at_cost ∙ ap (after (place_columns summed_cost_width n cost)) at_end)))
    ∙ sym (end_parts n legs hours cost (drop (end_length n) (end_letter ∷ cols)))

pub end_line_columns : (n legs hours : ℕ) (cost : Row) (cols rest : List ℕ) → Fits number_width (pos legs) → Fits summed_hours_width (pos hours)
    → ((i : ℕ) → i < n → Fits summed_cost_width (place cost i)) → end_letter ∷ cols ≡ end_line n legs hours cost ++ rest → EndColumns n cols legs hours cost
end_line_columns n legs hours cost cols rest fits_legs fits_hours fits_cost e =
    let past_cost : List ℕ = line_feed ∷ rest in
    let past_hours : List ℕ = place_columns summed_cost_width n cost ++ past_cost in
    let past_legs : List ℕ = column summed_hours_width (pos hours) ++ past_hours in
    let at_legs : drop 0 cols ≡ column number_width (pos legs) ++ past_legs = ap (drop 1) (e ∙ end_parts n legs hours cost rest) in
    let at_hours = then_rest cols past_legs 0 number_width (pos legs) fits_legs at_legs in
    let at_cost = then_rest cols past_hours number_width summed_hours_width (pos hours) fits_hours at_hours in
    let costs = then_places cols past_cost (number_width + summed_hours_width) summed_cost_width n cost (omega arith) fits_cost at_cost in
    record {
      legs_shown = then_shows cols past_legs 0 number_width (pos legs) (omega arith) fits_legs at_legs;
      hours_shown = then_shows cols past_hours number_width summed_hours_width (pos hours) (omega arith) fits_hours at_hours;
      cost_shown = costs.0;
      line_ends = then_feed cols rest (number_width + summed_hours_width + summed_cost_width * n) costs.1;
    }

-- a text that has the columns of a line is as long as the line
pub head_columns_long : (n p : ℕ) (cols : List ℕ) → HeadColumns n cols p → head_length ≤ length (form_letter Chart ∷ cols)
head_columns_long n p cols c = omega (arith, feed_within cols (2 * number_width) c.line_ends)

pub leg_columns_long : (n : ℕ) (l : Numbered) (cols : List ℕ) → LegColumns n cols l → leg_length n ≤ length (leg_letter ∷ cols)
leg_columns_long n l cols c = omega (arith, feed_within cols (3 * number_width + hours_width + cost_width * n) c.line_ends)

pub end_columns_long : (n legs hours : ℕ) (cost : Row) (cols : List ℕ) → EndColumns n cols legs hours cost → end_length n ≤ length (end_letter ∷ cols)
end_columns_long n legs hours cost cols c = omega (arith, feed_within cols (number_width + summed_hours_width + summed_cost_width * n) c.line_ends)
