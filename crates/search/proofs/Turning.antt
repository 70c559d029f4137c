-- A list turned to its lowest number. Assumes nothing.
use Rattle.std.proofs.Common.{◌≡◌, ℕ, suc, ◌+◌, ◌<◌, ◌≤◌, List, [], ◌∷◌, ◌++◌, length, get_or, take, drop, sym, ap, ◌∙◌, arith}
use Rattle.std.proofs.lemmas.List.{take-append-drop, drop_more, get_or-take, get_or-drop, length-take-le, length-drop}
use Rattle.rounds.specs.Lists.{AtLeast, Turned}

at_least_places : (low : ℕ) (ns : List ℕ) → ((i : ℕ) → i < length ns → low ≤ get_or ns i 0) → AtLeast low ns
at_least_places low [] h = tt
at_least_places low (n ∷ ns) h = (h 0 (omega arith), at_least_places low ns (λ i b. h (suc i) (omega arith)))

pub turned_at : (ns new : List ℕ) (i : ℕ) → i < length ns → ((j : ℕ) → j < length ns → get_or ns i 0 ≤ get_or ns j 0) → new ≡ drop i ns ++ take i ns → Turned ns new
turned_at ns new i b h e =
    let cut : drop i ns ≡ get_or ns i 0 ∷ drop (i + 1) ns = drop_more ns i 0 b in
    record {
      front = take i ns;
      low = get_or ns i 0;
      after = drop (i + 1) ns;
      was = sym (take-append-drop i ns) ∙ ap (λ (l : List ℕ). take i ns ++ l) cut;
      is = e ∙ ap (λ (l : List ℕ). l ++ take i ns) cut;
      none_in_front = at_least_places _ (take i ns) (λ j c. let k : j < i = omega (arith, length-take-le i ns (omega arith)) in rw (get_or-take i ns j 0 k) (h j (omega arith)));
      none_after = at_least_places _ (drop (i + 1) ns) (λ j c. rw (get_or-drop (i + 1) ns j 0) (h (i + 1 + j) (omega (arith, length-drop (i + 1) ns))));
    }
