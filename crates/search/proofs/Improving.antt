-- A cheaper round in the place of a round. Assumes nothing.
use Rattle.std.proofs.Common.{◌≡◌, ℕ, ◌<◌, true, List, take, Some, None, Option, sym, refl, ◌∙◌, subst, subst₂, arith}
use Rattle.rows.specs.Rows.{Row}
use Rattle.rows.specs.Kinds.{Kind, Laws, cheaper}
use Rattle.rows.proofs.Multiples.{cheaper_transitive}
use Rattle.costs.specs.declared.rate.Rate.{Rate}
use Rattle.charts.specs.Meaning.{Meaning, Within}
use Rattle.rounds.specs.Rates.{NoIdleRound, walk_cheaper}
use Rattle.rounds.specs.Measure.{cheaper_count}
use Rattle.rounds.specs.Sizes.{SmallRate}
use Rattle.rounds.proofs.Legs.{legs_join_ports}
use Rattle.rounds.proofs.Measure.{count_falls_lem}
use Rattle.rounds.proofs.Sizes.{round_rate}
use Rattle.search.specs.declared.round.Held.{Held}
use Rattle.search.specs.Search.{Holds, Least, Cheaper}
use Rattle.search.specs.Improve.{Improvement, Improving}

module _ {K : Type 0} {k : Kind} (laws : Laws k) {row : K → Row} {m : Meaning} (W : Within k m) (busy : NoIdleRound m) where
  some_hours : (buffer : List ℕ) (h : Held K) → Holds row m buffer h → 0 < h.rate.hours
  some_hours buffer h S = omega (arith, S.totals.hours, busy (take h.legs buffer) S.round)

  count_down : (old new : List ℕ) (was h : Held K) → Holds row m old was → Cheaper k row m was.rate new h
      → cheaper_count k m (row h.rate.cost) h.rate.hours < cheaper_count k m (row was.rate.cost) was.rate.hours
  count_down old new was h S B =
      let N = B.holds in
      let ns = take h.legs new in
      let e : walk_cheaper k m ns (row was.rate.cost) was.rate.hours ≡ true
      = (λ i. cheaper k (sym N.totals.cost i) (sym N.totals.hours i) (row was.rate.cost) was.rate.hours) ∙ B.cheaper_than in
      let f = count_falls_lem k laws m (legs_join_ports k m W) (row was.rate.cost) was.rate.hours ns (some_hours old was S) N.round (busy ns N.round) e in
      subst₂ (λ x y. cheaper_count k m x y < cheaper_count k m (row was.rate.cost) was.rate.hours) (sym N.totals.cost) (sym N.totals.hours) f

  -- old is the buffer with the round that was given, buffer the one with the round whose rate is at hand
  module _ {was : Held K} {old : List ℕ} (S : Holds row m old was) (buffer : List ℕ) {rate : Rate K} where
    -- that round
    held : (found : Option (Held K)) → Improving k row m was old rate buffer found → (h : Held K) × Holds row m buffer h × (rate ≡ h.rate)
    held (Some h) I = (h, I.holds, I.rate_is)
    held None I = (was, subst (λ b. Holds row m b was) (sym I.0) S, I.1)

    -- its rate is small enough
    pub small : (found : Option (Held K)) → Improving k row m was old rate buffer found → SmallRate k (row rate.cost) rate.hours
    small found I =
        let (h, H, e) = held found I in
        subst (λ (r : Rate K). SmallRate k (row r.cost) r.hours) (sym e)
        (subst₂ (SmallRate k) (sym H.totals.cost) (sym H.totals.hours) (round_rate k laws m W (take h.legs buffer) H.round))

    pub falls : (found : Option (Held K)) → Improving k row m was old rate buffer found → (next : List ℕ) (new : Held K) → Cheaper k row m rate next new
        → cheaper_count k m (row new.rate.cost) new.rate.hours < cheaper_count k m (row rate.cost) rate.hours
    falls found I next new B =
        let o = held found I in
        subst (λ (r : Rate K). cheaper_count k m (row new.rate.cost) new.rate.hours < cheaper_count k m (row r.cost) r.hours) (sym o.2)
        (count_down buffer next o.0 new o.1 (subst (λ (r : Rate K). Cheaper k row m r next new) o.2 B))

    pub improves : (found : Option (Held K)) → Improving k row m was old rate buffer found → (next : List ℕ) (new : Held K) → Cheaper k row m rate next new
        → Improving k row m was old new.rate next (Some new)
    improves found I next new B = record { holds = B.holds; rate_is = refl; cheaper_than = go found I }
      where
        go : (found : Option (Held K)) → Improving k row m was old rate buffer found → cheaper k (row new.rate.cost) new.rate.hours (row was.rate.cost) was.rate.hours ≡ true
        go None I = subst (λ (r : Rate K). cheaper k (row new.rate.cost) new.rate.hours (row r.cost) r.hours ≡ true) I.1 B.cheaper_than
        go (Some h) I =
            cheaper_transitive k laws (row new.rate.cost) (row h.rate.cost) (row was.rate.cost) new.rate.hours h.rate.hours was.rate.hours
            (some_hours next new B.holds) (some_hours buffer h I.holds) (some_hours old was S)
            (subst (λ (r : Rate K). cheaper k (row new.rate.cost) new.rate.hours (row r.cost) r.hours ≡ true) I.rate_is B.cheaper_than) I.cheaper_than

    -- no round is cheaper
    pub improved : (found : Option (Held K)) → Improving k row m was old rate buffer found → (costs : List K) (last : List ℕ) → (last ≡ buffer) × Least k row m rate costs → Improvement k row m was old costs last found
    improved (Some h) I costs last end = record {
      holds = subst (λ b. Holds row m b h) (sym end.0) I.holds;
      cheaper_than = I.cheaper_than;
      least = subst (λ (r : Rate K). Least k row m r costs) I.rate_is end.1;
    }
    improved None I costs last end =
        let same : last ≡ old = end.0 ∙ I.0 in
        record { unchanged = same; holds = subst (λ b. Holds row m b was) (sym same) S; least = subst (λ (r : Rate K). Least k row m r costs) I.1 end.1 }
