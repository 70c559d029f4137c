-- Lists of numbers turned, cut and drawn from one another. Assumes nothing.
use Rattle.std.proofs.Common.{◌≡◌, ℕ, ◌<◌, ◌≤◌, true, false, not, ◌||◌, eqb, ◌⊎◌, List, [], ◌∷◌, ◌++◌, length, sym, refl, ap, ◌∙◌, subst, inl, inr, append_assoc, append-nil, arith}
use mathlib.Core.Bool.{or_assoc}
use Rattle.std.proofs.lemmas.Bool.{and_parts, and_from, not-true, not_from_false, eqb-false, or_parts, or_from, or_left, or_right, ne_eqb, eq-eqb, cases_lt}
use Rattle.rounds.specs.Lists.{stands_in, each_once, DrawnFrom, AtLeast, LowestFirst, Turned}

pub stands_append : (x : ℕ) (xs ys : List ℕ) → stands_in x (xs ++ ys) ≡ (stands_in x xs || stands_in x ys)
stands_append x [] ys = refl
stands_append x (y ∷ xs) ys = rw (stands_append x xs ys) (sym (or_assoc (eqb x y) (stands_in x xs) (stands_in x ys)))

once_push : (x : ℕ) (xs : List ℕ) → stands_in x xs ≡ false → each_once xs ≡ true → each_once (xs ++ (x ∷ [])) ≡ true
once_push x [] h k = refl
once_push x (y ∷ xs) h k =
    let o = or_parts (eqb x y) (stands_in x xs) h in
    let a = and_parts (not (stands_in y xs)) (each_once xs) k in
    let other : eqb y x ≡ false = ne_eqb y x (λ e. eqb-false x y o.0 (sym e)) in
    let absent : stands_in y (xs ++ (x ∷ [])) ≡ false = stands_append y xs (x ∷ []) ∙ or_from _ _ (not-true _ a.0) (or_from _ _ other refl) in
    and_from _ _ (not_from_false _ absent) (once_push x xs o.1 a.1)

pub once_turned : (xs ys : List ℕ) → each_once (xs ++ ys) ≡ true → each_once (ys ++ xs) ≡ true
once_turned [] ys h = rw (append-nil ys) h
once_turned (x ∷ xs) ys h =
    let o = and_parts (not (stands_in x (xs ++ ys))) (each_once (xs ++ ys)) h in
    let pushed : each_once (xs ++ (ys ++ (x ∷ []))) ≡ true = rw append_assoc at (once_push x (xs ++ ys) (not-true _ o.0) o.1) in
    rw append_assoc at (once_turned xs (ys ++ (x ∷ [])) pushed)

pub once_front : (xs ys : List ℕ) → each_once (xs ++ ys) ≡ true → each_once xs ≡ true
once_front [] ys h = refl
once_front (x ∷ xs) ys h =
    let o = and_parts (not (stands_in x (xs ++ ys))) (each_once (xs ++ ys)) h in
    let a : stands_in x xs ≡ false = (or_parts (stands_in x xs) (stands_in x ys) (sym (stands_append x xs ys) ∙ not-true _ o.0)).0 in
    and_from _ _ (not_from_false _ a) (once_front xs ys o.1)

-- the lowest number
pub at_least_append : (low : ℕ) (xs ys : List ℕ) → AtLeast low xs → AtLeast low ys → AtLeast low (xs ++ ys)
at_least_append low [] ys p q = q
at_least_append low (x ∷ xs) ys p q = (p.0, at_least_append low xs ys p.1 q)

at_least_lower : (low n : ℕ) (xs : List ℕ) → low ≤ n → AtLeast n xs → AtLeast low xs
at_least_lower low n [] h p = tt
at_least_lower low n (x ∷ xs) h p = (omega (arith, p.0), at_least_lower low n xs h p.1)

pub turned_lowest : {old new : List ℕ} → Turned old new → LowestFirst new
turned_lowest t = subst LowestFirst (sym t.is) (at_least_append t.low t.after t.front t.none_after t.none_in_front)

-- every list that is not empty can be turned
pub record Turn (old : List ℕ) : Type 0 where
  pub new : List ℕ
  pub turned : Turned old new

turn_here : (n m : ℕ) (ns : List ℕ) (t : Turn (m ∷ ns)) → n ≤ t.turned.low → Turn (n ∷ (m ∷ ns))
turn_here n m ns t h =
    let u = t.turned in
    let all : AtLeast n (u.front ++ (u.low ∷ u.after))
    = at_least_append n u.front (u.low ∷ u.after) (at_least_lower n u.low u.front h u.none_in_front) (h, at_least_lower n u.low u.after h u.none_after) in
    record {
      new = (n ∷ (m ∷ ns)) ++ [];
      turned = record { front = []; low = n; after = m ∷ ns; was = refl; is = refl; none_in_front = tt; none_after = subst (AtLeast n) (sym u.was) all };
    }

turn_later : (n m : ℕ) (ns : List ℕ) (t : Turn (m ∷ ns)) → t.turned.low < n → Turn (n ∷ (m ∷ ns))
turn_later n m ns t h =
    let u = t.turned in
    record {
      new = (u.low ∷ u.after) ++ (n ∷ u.front);
      turned = record {
        front = n ∷ u.front;
        low = u.low;
        after = u.after;
        was = ap (◌∷◌ n) u.was;
        is = refl;
        none_in_front = (omega arith, u.none_in_front);
        none_after = u.none_after;
      };
    }

pub turn : (n : ℕ) (ns : List ℕ) → Turn (n ∷ ns)
turn n [] = record { new = n ∷ []; turned = record { front = []; low = n; after = []; was = refl; is = refl; none_in_front = tt; none_after = tt } }
turn n (m ∷ ns) = go (turn m ns) (cases_lt (turn m ns).turned.low n)
  where
    go : (t : Turn (m ∷ ns)) → (t.turned.low < n) ⊎ (n ≤ t.turned.low) → Turn (n ∷ (m ∷ ns))
    go t (inl h) = turn_later n m ns t h
    go t (inr h) = turn_here n m ns t h

pub turn_any : (ns : List ℕ) → 0 < length ns → Turn ns
turn_any [] h = absurd (omega arith)
turn_any (n ∷ ns) h = turn n ns

-- numbers drawn from a list
pub drawn_append : (ns xs ys : List ℕ) → DrawnFrom ns xs → DrawnFrom ns ys → DrawnFrom ns (xs ++ ys)
drawn_append ns [] ys p q = q
drawn_append ns (x ∷ xs) ys p q = (p.0, drawn_append ns xs ys p.1 q)

pub drawn_parts : (ns xs ys : List ℕ) → DrawnFrom ns (xs ++ ys) → DrawnFrom ns xs × DrawnFrom ns ys
drawn_parts ns [] ys p = (tt, p)
drawn_parts ns (x ∷ xs) ys p = let r = drawn_parts ns xs ys p.1 in ((p.0, r.0), r.1)

drawn_more : (n : ℕ) (ns xs : List ℕ) → DrawnFrom ns xs → DrawnFrom (n ∷ ns) xs
drawn_more n ns [] p = tt
drawn_more n ns (x ∷ xs) p = (or_right (eqb x n) (stands_in x ns) p.0, drawn_more n ns xs p.1)

pub drawn_all : (ns : List ℕ) → DrawnFrom ns ns
drawn_all [] = tt
drawn_all (n ∷ ns) = (or_left (eqb n n) (stands_in n ns) (eq-eqb n n refl), drawn_more n ns ns (drawn_all ns))

stands_left : (x : ℕ) (xs ys : List ℕ) → stands_in x xs ≡ true → stands_in x (xs ++ ys) ≡ true
stands_left x xs ys h = stands_append x xs ys ∙ or_left (stands_in x xs) (stands_in x ys) h

stands_right : (x : ℕ) (xs ys : List ℕ) → stands_in x ys ≡ true → stands_in x (xs ++ ys) ≡ true
stands_right x xs ys h = stands_append x xs ys ∙ or_right (stands_in x xs) (stands_in x ys) h

-- what is drawn from a part is drawn from the whole
pub drawn_on : (xs ys zs ms : List ℕ) {ns : List ℕ} → ns ≡ xs ++ (ys ++ zs) → DrawnFrom ys ms → DrawnFrom ns ms
drawn_on xs ys zs [] e p = tt
drawn_on xs ys zs (x ∷ ms) e p = (ap (stands_in x) e ∙ stands_right x xs (ys ++ zs) (stands_left x ys zs p.0), drawn_on xs ys zs ms e p.1)
