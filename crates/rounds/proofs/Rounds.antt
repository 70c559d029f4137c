-- The rounds that closed walks hold. Assumes nothing.
use Rattle.std.proofs.Common.{◌≡◌, ℕ, zero, suc, ◌<◌, ◌≤◌, Bool, true, false, ◌⊎◌, List, [], ◌∷◌, ◌++◌, map, length, sym, refl, ap, ◌∙◌, subst, inl, inr, ⊎_elim, arith, length-append}
use mathlib.Core.List.{map-append}
use lib.ListN.{length-map}
use Rattle.std.proofs.lemmas.Bool.{cases_Bool}
use Rattle.rows.specs.Rows.{Row, zero_row, sum}
use Rattle.rows.specs.Kinds.{Kind, Laws}
use Rattle.rows.proofs.Group.{zero_sum}
use Rattle.rows.proofs.Order.{clash}
use Rattle.rows.proofs.Multiples.{sums_le}
use Rattle.charts.specs.Meaning.{Meaning}
use Rattle.rounds.specs.Legs.{leaves, LegsJoinPorts}
use Rattle.rounds.specs.Lists.{each_once, DrawnFrom, Turned}
use Rattle.rounds.specs.Walks.{ClosedWalk}
use Rattle.rounds.specs.Rounds.{Round}
use Rattle.rounds.specs.Rates.{sum_of, hours_of}
use Rattle.rounds.proofs.Pigeonhole.{few}
use Rattle.rounds.proofs.Turns.{once_turned, turned_lowest, turn, drawn_append, drawn_parts, drawn_all}
use Rattle.rounds.proofs.Walks.{sum_part, sum_swapped, hours_append, hours_swapped, closed_swapped}
use Rattle.rounds.proofs.Repeats.{leaves_twice, ports_left, part_closed, rest, rest_walks, rest_length}

-- what is good of a list is so of a part of it, or of what is left without the part
abbrev Parts : (List ℕ → Type 0) → Type 0
Parts Good = (xs ys zs : List ℕ) → Good (xs ++ (ys ++ zs)) → Good ys ⊎ Good (xs ++ zs)

-- and whichever number the list is turned to
abbrev Swap : (List ℕ → Type 0) → Type 0
Swap Good = (xs ys : List ℕ) → Good (xs ++ ys) → Good (ys ++ xs)

module _ (m : Meaning) where
  -- a closed walk that leaves no port twice, turned to its lowest number
  pub turned_round : {old new : List ℕ} → ClosedWalk m old → each_once (map (leaves m) old) ≡ true → Turned old new → Round m new
  turned_round c a t =
      let f = t.front in
      let b = t.low ∷ t.after in
      let a₁ : each_once (map (leaves m) f ++ map (leaves m) b) ≡ true = subst (λ x. each_once x ≡ true) (ap (map (leaves m)) t.was ∙ map-append (leaves m) f b) a in
      let a₂ : each_once (map (leaves m) (b ++ f)) ≡ true
      = subst (λ x. each_once x ≡ true) (sym (map-append (leaves m) b f)) (once_turned (map (leaves m) f) (map (leaves m) b) a₁) in
      record {
        closed = subst (ClosedWalk m) (sym t.is) (closed_swapped m f b (subst (ClosedWalk m) t.was c));
        once = subst (λ x. each_once (map (leaves m) x) ≡ true) (sym t.is) a₂;
        lowest = turned_lowest t;
      }

  -- a round has no more legs than there are ports
  pub round_short : (ns : List ℕ) → LegsJoinPorts m → Round m ns → length ns ≤ m.ports
  round_short ns J r =
      let c = r.closed in
      omega (arith, few m.ports (map (leaves m) ns) r.once (ports_left m ns c.port c.port J c.back), length-map ns (leaves m))

  -- a closed walk is cut down, always to a good part, until it leaves no port twice
  module _ (Good : List ℕ → Type 0) (parts : Parts Good) (swap : Swap Good) where
    record Shrunk : Type 0 where
      legs : List ℕ
      closed : ClosedWalk m legs
      once : each_once (map (leaves m) legs) ≡ true
      good : Good legs

    shrink : (i : ℕ) (ns : List ℕ) → length ns ≤ i → ClosedWalk m ns → Good ns → Shrunk
    shrink zero ns h c g = absurd (omega (arith, c.some))
    shrink (suc i) ns h c g = go (λ ms. shrink i ms) (cases_Bool (each_once (map (leaves m) ns)))
      where
        go : ((ms : List ℕ) → length ms ≤ i → ClosedWalk m ms → Good ms → Shrunk)
            → (each_once (map (leaves m) ns) ≡ true) ⊎ (each_once (map (leaves m) ns) ≡ false) → Shrunk
        go rec (inl e) = record { legs = ns; closed = c; once = e; good = g }
        go rec (inr e) =
            let p = leaves_twice m ns c.port c.port c.back e in
            let l = p.0 in
            let some : 0 < length (rest m l) = omega (arith, p.1, length-append l.before l.after) in
            ⊎_elim (λ (h₁ : Good l.part). rec l.part (omega (arith, rest_length m l)) (part_closed m l) h₁)
            (λ (h₂ : Good (rest m l)). rec (rest m l) (omega (arith, rest_length m l, l.some)) (record { port = c.port; some = some; back = rest_walks m l }) h₂)
            (parts l.before l.part l.after (subst Good l.whole g))

    pub record GoodRound : Type 0 where
      pub legs : List ℕ
      pub round : Round m legs
      pub good : Good legs

    good_turned : (ns : List ℕ) → ClosedWalk m ns → each_once (map (leaves m) ns) ≡ true → Good ns → GoodRound
    good_turned [] c a g = absurd (omega (arith, c.some))
    good_turned (n ∷ ns) c a g =
        let t = (turn n ns).turned in
        record { legs = (turn n ns).new; round = turned_round c a t; good = subst Good (sym t.is) (swap t.front (t.low ∷ t.after) (subst Good t.was g)) }

    pub good_round : (ns : List ℕ) → ClosedWalk m ns → Good ns → GoodRound
    good_round ns c g =
        let s = shrink (length ns) ns (omega arith) c g in
        good_turned s.legs s.closed s.once s.good

  -- the same of legs drawn from the walk
  module _ (ns : List ℕ) (Good : List ℕ → Type 0) (parts : Parts Good) (swap : Swap Good) where
    abbrev DrawnGood : List ℕ → Type 0
    DrawnGood ms = DrawnFrom ns ms × Good ms

    drawn_good_parts : Parts DrawnGood
    drawn_good_parts xs ys zs g =
        let a = drawn_parts ns xs (ys ++ zs) g.0 in
        let b = drawn_parts ns ys zs a.1 in
        ⊎_elim (λ (h : Good ys). inl (b.0, h)) (λ (h : Good (xs ++ zs)). inr (drawn_append ns xs zs a.0 b.1, h)) (parts xs ys zs g.1)

    drawn_good_swap : Swap DrawnGood
    drawn_good_swap xs ys g = let a = drawn_parts ns xs ys g.0 in (drawn_append ns ys xs a.1 a.0, swap xs ys g.1)

    pub held_round : ClosedWalk m ns → Good ns → (ms : List ℕ) × Round m ms × DrawnFrom ns ms × Good ms
    held_round c g =
        let r = good_round DrawnGood drawn_good_parts drawn_good_swap ns c (drawn_all ns, g) in
        (r.legs, r.round, r.good.0, r.good.1)

  pub some_round : (ns : List ℕ) → ClosedWalk m ns → (ms : List ℕ) × Round m ms × DrawnFrom ns ms
  some_round ns c = let r = held_round ns (λ ms. Unit {0}) (λ xs ys zs g. inl tt) (λ xs ys g. tt) c tt in (r.0, r.1, r.2)

  pub idle_round : (ns : List ℕ) → ClosedWalk m ns → hours_of m ns ≡ 0 → (ms : List ℕ) × Round m ms × DrawnFrom ns ms × (hours_of m ms ≡ 0)
  idle_round ns c h =
      held_round ns (λ ms. hours_of m ms ≡ 0)
      (λ xs ys zs g. inl (omega (arith, hours_append m xs (ys ++ zs), hours_append m ys zs)))
      (λ xs ys g. hours_swapped m xs ys ∙ g) c h

-- of two rows whose sum is below zero, one is
part_below : (k : Kind) → Laws k → (a b : Row) → k.below (sum a b) zero_row ≡ true → (k.below a zero_row ≡ true) ⊎ (k.below b zero_row ≡ true)
part_below k laws a b h = go (k.below a zero_row) (k.below b zero_row) refl refl
  where
    go : (x y : Bool) → k.below a zero_row ≡ x → k.below b zero_row ≡ y → (k.below a zero_row ≡ true) ⊎ (k.below b zero_row ≡ true)
    go true y p q = inl p
    go false true p q = inr q
    go false false p q = clash h (ap (k.below (sum a b)) (sym (zero_sum zero_row)) ∙ sums_le k laws zero_row a zero_row b p q)

-- where a closed walk weighs less than zero, so does a round
pub light_round : (m : Meaning) (k : Kind) → Laws k → (w : ℕ → Row) (ns : List ℕ) → ClosedWalk m ns → k.below (sum_of w ns) zero_row ≡ true
    → (ms : List ℕ) × Round m ms × DrawnFrom ns ms × (k.below (sum_of w ms) zero_row ≡ true)
light_round m k laws w ns c h =
    held_round m ns (λ ms. k.below (sum_of w ms) zero_row ≡ true)
    (λ xs ys zs g. part_below k laws _ _ (rw (sum_part w xs ys zs) at g))
    (λ xs ys g. ap (λ (x : Row). k.below x zero_row) (sum_swapped w xs ys) ∙ g) c h
