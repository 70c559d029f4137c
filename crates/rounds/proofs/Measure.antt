-- The count of cheaper lists falls as a cheaper round takes the place of another. Assumes nothing.
use Rattle.std.proofs.Common.{◌≡◌, ℕ, zero, suc, ◌<◌, ◌≤◌, Bool, true, false, cond, ltb, ◌⊎◌, List, [], ◌∷◌, ◌++◌, map, length, sym, refl, ap, ◌∙◌, subst, inl, inr, arith}
use Rattle.std.proofs.lemmas.Bool.{and_parts, and_from, and_right, ltb-true, lt-ltb, cases_eq}
use Rattle.rows.specs.Rows.{Row}
use Rattle.rows.specs.Kinds.{Kind, Laws}
use Rattle.rows.proofs.Multiples.{cheaper_transitive}
use Rattle.charts.specs.Meaning.{Meaning}
use Rattle.rounds.specs.Legs.{reaches, LegsJoinPorts}
use Rattle.rounds.specs.Walks.{Walk}
use Rattle.rounds.specs.Rounds.{Round}
use Rattle.rounds.specs.Rates.{cost_of, hours_of, walk_cheaper}
use Rattle.rounds.specs.Measure.{how_many, prefixed, lists_of, counts, cheaper_count}
use Rattle.rounds.proofs.Pigeonhole.{AllBelow}
use Rattle.rounds.proofs.Legs.{listed}
use Rattle.rounds.proofs.Rounds.{round_short}

abbrev Among : {A : Type 0} → A → List A → Type 0
Among a [] = ⊥
Among a (x ∷ xs) = (a ≡ x) ⊎ Among a xs

among_left : {A : Type 0} (a : A) (xs ys : List A) → Among a xs → Among a (xs ++ ys)
among_left a [] ys h = absurd h
among_left a (x ∷ xs) ys (inl e) = inl e
among_left a (x ∷ xs) ys (inr h) = inr (among_left a xs ys h)

among_right : {A : Type 0} (a : A) (xs ys : List A) → Among a ys → Among a (xs ++ ys)
among_right a [] ys h = h
among_right a (x ∷ xs) ys h = inr (among_right a xs ys h)

among_map : {A B : Type 0} (f : A → B) (a : A) (xs : List A) → Among a xs → Among (f a) (map f xs)
among_map f a [] h = absurd h
among_map f a (x ∷ xs) (inl e) = inl (ap f e)
among_map f a (x ∷ xs) (inr h) = inr (among_map f a xs h)

among_prefixed : (i n : ℕ) (ns : List ℕ) (ls : List (List ℕ)) → n < i → Among ns ls → Among (n ∷ ns) (prefixed i ls)
unfolding prefixed
among_prefixed zero n ns ls h p = absurd (omega arith)
among_prefixed (suc i) n ns ls h p = go (cases_eq n i) (λ l. among_prefixed i n ns ls l p)
  where
    go : (n ≡ i) ⊎ (n ≡ i → ⊥) → (n < i → Among (n ∷ ns) (prefixed i ls)) → Among (n ∷ ns) (map (◌∷◌ i) ls ++ prefixed i ls)
    go (inl e) rec = among_left (n ∷ ns) (map (◌∷◌ i) ls) (prefixed i ls) (subst (λ x. Among (x ∷ ns) (map (◌∷◌ i) ls)) (sym e) (among_map (◌∷◌ i) ns ls p))
    go (inr e) rec = among_right (n ∷ ns) (map (◌∷◌ i) ls) (prefixed i ls) (rec (omega arith))

among_lists : (n i : ℕ) (ns : List ℕ) → AllBelow n ns → length ns ≤ i → Among ns (lists_of n i)
unfolding lists_of
among_lists n zero [] b h = inl refl
among_lists n zero (x ∷ ns) b h = absurd (omega arith)
among_lists n (suc i) [] b h = inl refl
among_lists n (suc i) (x ∷ ns) b h = inr (among_prefixed n x ns (lists_of n i) b.0 (among_lists n i ns b.1 (omega arith)))

-- what passes p passes q too, so no more pass p, and fewer if one of the list passes q alone
module _ {A : Type 0} (p q : A → Bool) (implies : (x : A) → p x ≡ true → q x ≡ true) where
  one_le : (x : A) → cond (p x) 1 0 ≤ cond (q x) 1 0
  one_le x = go (p x) refl
    where
      go : (b : Bool) → p x ≡ b → cond b 1 0 ≤ cond (q x) 1 0
      go true e = rw (implies x e) (omega arith)
      go false e = omega arith

  no_more : (xs : List A) → how_many p xs ≤ how_many q xs
  no_more [] = omega arith
  no_more (x ∷ xs) = omega (arith, one_le x, no_more xs)

  fewer : (a : A) (xs : List A) → Among a xs → q a ≡ true → p a ≡ false → how_many p xs < how_many q xs
  fewer a [] h i j = absurd h
  fewer a (x ∷ xs) (inl e) i j =
      let y : ◌≡◌ {A = ℕ} (cond (p x) 1 0) 0 = ap (λ b. cond b 1 0) (ap p (sym e) ∙ j) in
      let z : ◌≡◌ {A = ℕ} (cond (q x) 1 0) 1 = ap (λ b. cond b 1 0) (ap q (sym e) ∙ i) in
      omega (arith, no_more xs)
  fewer a (x ∷ xs) (inr h) i j = omega (arith, one_le x, fewer a xs h i j)

module _ (k : Kind) (laws : Laws k) (m : Meaning) (J : LegsJoinPorts m) where
  numbers_below : (ns : List ℕ) (u v : ℕ) → Walk m u ns v → AllBelow (length m.entries) ns
  numbers_below [] u v r = tt
  numbers_below (n ∷ ns) u v r = (listed m n r.0, numbers_below ns (reaches m n) v r.2)

  pub count_falls_lem : (c : Row) (t : ℕ) (ns : List ℕ) → 0 < t → Round m ns → 0 < hours_of m ns → walk_cheaper k m ns c t ≡ true
      → cheaper_count k m (cost_of m ns) (hours_of m ns) < cheaper_count k m c t
  unfolding cheaper_count
  count_falls_lem c t ns h r i b =
      fewer (counts k m (cost_of m ns) (hours_of m ns)) (counts k m c t)
      (λ ms p.
      let a = and_parts (ltb 0 (hours_of m ms)) _ p in
      and_from _ _ a.0 (cheaper_transitive k laws (cost_of m ms) (cost_of m ns) c (hours_of m ms) (hours_of m ns) t (ltb-true _ _ a.0) i h a.1 b))
      ns
      (lists_of (length m.entries) m.ports)
      (among_lists (length m.entries) m.ports ns (numbers_below ns r.closed.port r.closed.port r.closed.back) (round_short m ns J r))
      (and_from _ _ (lt-ltb 0 (hours_of m ns) i) b)
      (and_right _ _ (laws.irreflexive _))
