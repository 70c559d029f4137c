-- The statements on walks and rounds, from their lemmas. Assumes nothing.
use Rattle.std.proofs.Common.{◌≡◌, ℕ, ◌<◌, Bool, true, false, ◌⊎◌, List, sym, refl, ◌∙◌, inl, inr, arith}
use Rattle.std.proofs.lemmas.Bool.{cases_eq}
use Rattle.rows.specs.Rows.{Row}
use Rattle.rows.specs.Kinds.{Kind, Laws}
use Rattle.rows.proofs.Order.{clash}
use Rattle.charts.specs.Meaning.{Meaning}
use Rattle.rounds.specs.Legs.{figures_at, LegsJoinPorts}
use Rattle.rounds.specs.Lists.{DrawnFrom}
use Rattle.rounds.specs.Walks.{ClosedWalk}
use Rattle.rounds.specs.Rates.{hours_of, walk_cheaper, leg_weight, NoIdleRound, CheaperRound, NoRoundCheaper, Best}
use Rattle.rounds.specs.Theorems.{WalksAdd, PortsBound, ClosedWalksHold, CheaperWalksHold, KeptRoundsStand}
use Rattle.rounds.proofs.Turns.{drawn_on}
use Rattle.rounds.proofs.Walks.{join, split, sum_append, sum_turned, hours_append, hours_turned}
use Rattle.rounds.proofs.Repeats.{long_repeats, part_closed}
use Rattle.rounds.proofs.Rounds.{round_short, some_round, idle_round, light_round}
use Rattle.rounds.proofs.Weights.{weight_tells}
use Rattle.rounds.proofs.Standing.{kept_numbers, walk_stands, standing_same, standing_round}

pub walks_add_lem : (m : Meaning) → WalksAdd m
walks_add_lem m = record {
  joins = join m;
  splits = split m;
  costs = sum_append (λ n. (figures_at m n).cost);
  hours = hours_append m;
  weights = λ c t. sum_append (leg_weight m c t);
  turned_cost = λ old new t. sum_turned (λ n. (figures_at m n).cost) t;
  turned_hours = λ old new t. hours_turned m t;
}

pub ports_bound : (m : Meaning) → LegsJoinPorts m → PortsBound m
ports_bound m J = record {
  repeats = λ u v ns h r i. long_repeats m ns u v J h r i;
  holds = λ u v ns h r i.
      let l = long_repeats m ns u v J h r i in
      let o = some_round m l.part (part_closed m l) in
      (o.0, o.1, drawn_on l.before l.part l.after o.0 l.whole o.2);
  short = λ ns r. round_short m ns J r;
}

-- a closed walk of no hours holds a round of no hours
closed_hours : (m : Meaning) → NoIdleRound m → (ns : List ℕ) → ClosedWalk m ns → 0 < hours_of m ns
closed_hours m busy ns c = go (cases_eq (hours_of m ns) 0)
  where
    go : (hours_of m ns ≡ 0) ⊎ (hours_of m ns ≡ 0 → ⊥) → 0 < hours_of m ns
    go (inl e) = let r = idle_round m ns c e in absurd (omega (arith, busy r.0 r.1, r.3))
    go (inr e) = omega arith

pub closed_walks_hold : (m : Meaning) → ClosedWalksHold m
closed_walks_hold m = record {
  round = some_round m;
  idle = λ ns c h. let r = idle_round m ns c h in (r.0, record { round = r.1; idle = r.3 }, r.2);
  hours = closed_hours m;
}

module _ (k : Kind) (laws : Laws k) (m : Meaning) (c : Row) (t : ℕ) where
  cheaper_round : (ns : List ℕ) → ClosedWalk m ns → walk_cheaper k m ns c t ≡ true → (ms : List ℕ) × CheaperRound k m c t ms × DrawnFrom ns ms
  cheaper_round ns o h =
      let r = light_round m k laws (leg_weight m c t) ns o (weight_tells m c t k laws ns ∙ h) in
      (r.0, record { round = r.1; cheaper_than = sym (weight_tells m c t k laws r.0) ∙ r.3 }, r.2)

  no_walk : NoRoundCheaper k m c t → Best k m c t
  no_walk none ns o = go (walk_cheaper k m ns c t) refl
    where
      go : (b : Bool) → walk_cheaper k m ns c t ≡ b → walk_cheaper k m ns c t ≡ false
      go false e = e
      go true e = let r = cheaper_round ns o e in clash r.1.cheaper_than (none r.0 r.1.round)

  pub cheaper_walks_hold : CheaperWalksHold k m c t
  cheaper_walks_hold = record { cheaper_round = cheaper_round; no_round = λ best ns r. best ns r.closed; no_walk = no_walk }

pub kept_rounds_stand_lem : (old : Meaning) → KeptRoundsStand old
kept_rounds_stand_lem old = record {
  same_numbers = kept_numbers old;
  at_first = λ ns r. walk_stands old ns r.closed.port r.closed.port r.closed.back;
  same_ports = λ new ns h. standing_same old new ns h;
  later = λ new ns r h. standing_round old new ns r h;
}
