-- Numbers below p that each stand once are p at most. Assumes nothing.
use Rattle.std.proofs.Common.{◌≡◌, ℕ, zero, suc, ◌<◌, ◌≤◌, Bool, true, false, cond, not, eqb, ◌≢◌, List, [], ◌∷◌, length, sym, refl, ap, arith}
use Rattle.std.proofs.lemmas.Bool.{and_parts, and_from, not-true, not_from_false, eqb-true, eqb-false, or_parts, or_from, ne_eqb, cond_both}
use Rattle.rounds.specs.Lists.{stands_in, each_once}

abbrev pub AllBelow : ℕ → List ℕ → Type 0
AllBelow p [] = Unit {0}
AllBelow p (x ∷ xs) = (x < p) × AllBelow p xs

without : ℕ → List ℕ → List ℕ
without p [] = []
without p (x ∷ xs) = cond (eqb p x) (without p xs) (x ∷ without p xs)

without_absent : (p : ℕ) (xs : List ℕ) → stands_in p xs ≡ false → without p xs ≡ xs
unfolding without
without_absent p [] h = refl
without_absent p (x ∷ xs) h = let o = or_parts (eqb p x) (stands_in p xs) h in rw o.0 (ap (◌∷◌ x) (without_absent p xs o.1))

stands_without : (p y : ℕ) (xs : List ℕ) → stands_in y xs ≡ false → stands_in y (without p xs) ≡ false
unfolding without
stands_without p y [] h = refl
stands_without p y (x ∷ xs) h =
    let o = or_parts (eqb y x) (stands_in y xs) h in
    let rest = stands_without p y xs o.1 in
    cond_both (eqb p x) (without p xs) (x ∷ without p xs) (λ l. stands_in y l ≡ false) (λ e. rest) (λ e. or_from _ _ o.0 rest)

once_without : (p : ℕ) (xs : List ℕ) → each_once xs ≡ true → each_once (without p xs) ≡ true
unfolding without
once_without p [] h = refl
once_without p (x ∷ xs) h =
    let o = and_parts (not (stands_in x xs)) (each_once xs) h in
    let rest = once_without p xs o.1 in
    cond_both (eqb p x) (without p xs) (x ∷ without p xs) (λ l. each_once l ≡ true) (λ e. rest)
    (λ e. and_from _ _ (not_from_false _ (stands_without p x xs (not-true _ o.0))) rest)

below_without : (p : ℕ) (xs : List ℕ) → AllBelow (suc p) xs → AllBelow p (without p xs)
unfolding without
below_without p [] h = tt
below_without p (x ∷ xs) h =
    let rest = below_without p xs h.1 in
    cond_both (eqb p x) (without p xs) (x ∷ without p xs) (AllBelow p) (λ e. rest)
    (λ e. let d : p ≢ x = eqb-false p x e in (omega arith, rest))

length_without : (p : ℕ) (xs : List ℕ) → each_once xs ≡ true → length xs ≤ suc (length (without p xs))
unfolding without
length_without p [] h = omega arith
length_without p (x ∷ xs) h =
    let o = and_parts (not (stands_in x xs)) (each_once xs) h in
    let rest = length_without p xs o.1 in
    cond_both (eqb p x) (without p xs) (x ∷ without p xs) (λ l. suc (length xs) ≤ suc (length l))
    (λ e. let same : without p xs ≡ xs = without_absent p xs (rw (eqb-true p x e) (not-true _ o.0)) in omega (arith, ap length same))
    (λ e. omega arith)

pub few : (p : ℕ) (xs : List ℕ) → each_once xs ≡ true → AllBelow p xs → length xs ≤ p
few zero [] h b = omega arith
few zero (x ∷ xs) h b = absurd (omega (arith, b.0))
few (suc p) xs h b =
    let shorter = few p (without p xs) (once_without p xs h) (below_without p xs b) in
    omega (arith, length_without p xs h)

pub some_twice : (p : ℕ) (xs : List ℕ) → AllBelow p xs → p < length xs → each_once xs ≡ false
some_twice p xs b h = go (each_once xs) refl
  where
    go : (t : Bool) → each_once xs ≡ t → each_once xs ≡ false
    go false e = e
    go true e = absurd (omega (arith, few p xs e b))

-- the values of f below c, the last one first
unfoldable pub values : (ℕ → ℕ) → ℕ → List ℕ
values f zero = []
values f (suc c) = f c ∷ values f c

not_a_value : (f : ℕ → ℕ) (x c : ℕ) → ((a : ℕ) → a < c → f a ≢ x) → stands_in x (values f c) ≡ false
unfolding values
not_a_value f x zero h = refl
not_a_value f x (suc c) h = or_from _ _ (ne_eqb x (f c) (λ e. h c (omega arith) (sym e))) (not_a_value f x c (λ a b. h a (omega arith)))

pub values_once : (f : ℕ → ℕ) (c : ℕ) → ((a b : ℕ) → a < b → b < c → f a ≢ f b) → each_once (values f c) ≡ true
unfolding values
values_once f zero h = refl
values_once f (suc c) h =
    and_from _ _ (not_from_false _ (not_a_value f (f c) c (λ a b. h a c b (omega arith)))) (values_once f c (λ a b i j. h a b i (omega arith)))

values_below : (f : ℕ → ℕ) (p c : ℕ) → ((a : ℕ) → a < c → f a < p) → AllBelow p (values f c)
unfolding values
values_below f p zero h = tt
values_below f p (suc c) h = (h c (omega arith), values_below f p c (λ a b. h a (omega arith)))

length_values : (f : ℕ → ℕ) (c : ℕ) → length (values f c) ≡ c
unfolding values
length_values f zero = refl
length_values f (suc c) = omega (arith, length_values f c)

-- a function that takes no value twice, and only values below p, has no more than p of them
pub few_values : (f : ℕ → ℕ) (p c : ℕ) → ((a : ℕ) → a < c → f a < p) → ((a b : ℕ) → a < b → b < c → f a ≢ f b) → c ≤ p
few_values f p c h d = omega (arith, few p (values f c) (values_once f c d) (values_below f p c h), length_values f c)
