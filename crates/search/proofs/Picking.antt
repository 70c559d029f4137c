-- Picked legs as predecessors, and the cycles that they make. Assumes nothing.
use Rattle.std.proofs.Common.{◌≡◌, ℕ, ◌+◌, ◌-◌, ◌*◌, ◌<◌, ◌≤◌, List, get_or, take, ap, ◌∙◌, subst, arith}
use Rattle.rows.specs.Rows.{Row}
use Rattle.rows.specs.Kinds.{Kind}
use Rattle.charts.specs.Meaning.{Meaning, Within}
use Rattle.rounds.specs.Legs.{there, reaches}
use Rattle.rounds.specs.Lists.{Turned}
use Rattle.rounds.specs.Walks.{Walk}
use Rattle.rounds.specs.Rounds.{Round}
use Rattle.rounds.proofs.Rounds.{turned_round}
use Rattle.rounds.proofs.WalksBack.{length_back}
use Rattle.rounds.proofs.FirstRepeats.{repeat_once}
use Rattle.search.specs.declared.back.Repeat.{Repeat}
use Rattle.search.specs.Predecessors.{pred_at, Led}
use Rattle.search.specs.Back.{Repeats, legs_of}
use Rattle.search.specs.declared.round.Held.{Held}
use Rattle.search.specs.Look.{Written}
use Rattle.search.specs.First.{Picked}
use Rattle.search.proofs.WalkingBack.{traced}

-- every row is the same
pick_is : (picks : List ℕ) (i v : ℕ) → pred_at 0 picks i v ≡ get_or picks v 0
unfolding pred_at
pick_is picks i v = let e : i * 0 + v ≡ v = omega arith in ap (λ u. get_or picks u 0) e

pub picks_led : {k : Kind} {m : Meaning} {picks : List ℕ} → Within k m → Picked m picks → (ports : ℕ) → ports ≡ m.ports → Led k m 0 picks ports
picks_led {m = m} {picks = picks} W P ports e = record {
  within = W;
  few = omega arith;
  stands = λ i v h b. omega (arith, P.long);
  legs = λ i v h b some.
      let e = pick_is picks i v in
      let o = P.legs v b (subst (λ u. 0 < u) e some) in
      (ap (λ u. there m (u - 1)) e ∙ o.0, ap (λ u. reaches m (u - 1)) e ∙ o.1);
}

-- a repeat, turned to its lowest number, is a round
pub repeat_is_round : {k : Kind} {m : Meaning} {width : ℕ} {table : List ℕ} {top : ℕ} → Led k m width table top → {r : Repeat} → Repeats m width table top r
    → (ns : List ℕ) → Turned (legs_of m width table r) ns → Round m ns
repeat_is_round {k} {m} {width} {table} {top} L {r} R ns t =
    let by = pred_at width table in
    let T = traced L R in
    turned_round m (record {
      port = r.port;
      some = omega (arith, length_back m by r.legs r.layer r.port, T.some);
      back = subst (λ u. Walk m u (legs_of m width table r) r.port) R.first.again (T.leads r.legs (omega arith));
    }) (repeat_once m by r.legs r.layer r.port R.first) t

pub written_round : {K : Type 0} {k : Kind} {row : K → Row} {m : Meaning} {width : ℕ} {table : List ℕ} {top : ℕ} → Led k m width table top → {buffer : List ℕ} {h : Held K} → Written row m width table top buffer h
    → (h.legs ≤ m.ports) × Round m (take h.legs buffer)
written_round L {buffer} {h} W =
    let s = W.known.repeats in
    (omega (arith, W.legs_are, s.first.deep, s.deep, L.few), repeat_is_round L s (take h.legs buffer) W.turned)
