-- A kept round that is still there is a round. Assumes nothing.
use Rattle.std.proofs.Common.{◌≡◌, ℕ, true, eqb, List, [], ◌∷◌, map, sym, refl, ap, ◌∙◌, subst}
use Rattle.std.proofs.lemmas.Bool.{and_parts, and_from, eqb-true, eq-eqb}
use Rattle.charts.specs.Meaning.{Meaning}
use Rattle.rounds.specs.Legs.{there, leaves, reaches}
use Rattle.rounds.specs.Lists.{each_once}
use Rattle.rounds.specs.Walks.{Walk}
use Rattle.rounds.specs.Rounds.{Round}
use Rattle.rounds.specs.Standing.{Joined, numbers, joined, kept, still_joins, still_there}

pub joins_parts : (m : Meaning) (j : Joined) → still_joins m j ≡ true
    → (there m j.number ≡ true) × (leaves m j.number ≡ j.from) × (reaches m j.number ≡ j.to)
joins_parts m j h =
    let a = and_parts (there m j.number) _ h in
    let b = and_parts (eqb (leaves m j.number) j.from) _ a.1 in
    (a.0, eqb-true _ _ b.0, eqb-true _ _ b.1)

pub kept_numbers : (m : Meaning) (ns : List ℕ) → numbers (kept m ns) ≡ ns
kept_numbers m [] = refl
kept_numbers m (n ∷ ns) = ap (◌∷◌ n) (kept_numbers m ns)

-- on the chart that it was taken from
pub walk_stands : (m : Meaning) (ns : List ℕ) (u v : ℕ) → Walk m u ns v → still_there m (kept m ns) ≡ true
walk_stands m [] u v r = refl
walk_stands m (n ∷ ns) u v r =
    and_from _ _ (and_from _ _ r.0 (and_from _ _ (eq-eqb (leaves m n) (leaves m n) refl) (eq-eqb (reaches m n) (reaches m n) refl))) (walk_stands m ns (reaches m n) v r.2)

module _ (old new : Meaning) where
  standing_walk : (ns : List ℕ) (u v : ℕ) → Walk old u ns v → still_there new (kept old ns) ≡ true → Walk new u ns v
  standing_walk [] u v r h = r
  standing_walk (n ∷ ns) u v r h =
      let a = and_parts (still_joins new (joined old n)) _ h in
      let p = joins_parts new (joined old n) a.0 in
      (p.0, p.1 ∙ r.1, subst (λ x. Walk new x ns v) (sym p.2) (standing_walk ns (reaches old n) v r.2 a.1))

  pub standing_same : (ns : List ℕ) → still_there new (kept old ns) ≡ true → kept new ns ≡ kept old ns
  standing_same [] h = refl
  standing_same (n ∷ ns) h =
      let a = and_parts (still_joins new (joined old n)) _ h in
      let p = joins_parts new (joined old n) a.0 in
      λ i. record { number = n; from = p.1 i; to = p.2 i } ∷ standing_same ns a.1 i

  standing_left : (ns : List ℕ) → still_there new (kept old ns) ≡ true → map (leaves new) ns ≡ map (leaves old) ns
  standing_left [] h = refl
  standing_left (n ∷ ns) h =
      let a = and_parts (still_joins new (joined old n)) _ h in
      let p = joins_parts new (joined old n) a.0 in
      λ i. p.1 i ∷ standing_left ns a.1 i

  pub standing_round : (ns : List ℕ) → Round old ns → still_there new (kept old ns) ≡ true → Round new ns
  standing_round ns r h =
      let c = r.closed in
      record {
        closed = record { port = c.port; some = c.some; back = standing_walk ns c.port c.port c.back h };
        once = ap each_once (standing_left ns h) ∙ r.once;
        lowest = r.lowest;
      }
