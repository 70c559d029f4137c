-- The statements on layers, walks back, the measure, bare charts and sizes, from their lemmas. Assumes nothing.
use Rattle.std.proofs.Common.{◌≡◌, ℕ, true, false, List, sym, refl, ◌∙◌, arith}
use Rattle.rows.specs.Rows.{Row, zero_row}
use Rattle.rows.specs.Kinds.{Kind, Laws}
use Rattle.rows.proofs.Order.{clash}
use Rattle.charts.specs.Meaning.{Meaning, Within}
use Rattle.rounds.specs.Legs.{LegsJoinPorts}
use Rattle.rounds.specs.Rounds.{Round}
use Rattle.rounds.specs.Rates.{sum_of, leg_weight, CheaperRound}
use Rattle.rounds.specs.Layers.{Layers}
use Rattle.rounds.specs.SearchTheorems.{LayersStand, WalksBack, CountFalls, BareTells, SizesFit}
use Rattle.rounds.proofs.Legs.{legs_join_ports}
use Rattle.rounds.proofs.Weights.{weight_tells}
use Rattle.rounds.proofs.Layers.{first_layer, next_layer}
use Rattle.rounds.proofs.Settled.{same_settled, settled_closed, settled_least, one_least}
use Rattle.rounds.proofs.WalksBack.{lowered_in, length_back, back_walk, back_light}
use Rattle.rounds.proofs.FirstRepeats.{repeat_round, last_repeats, last_round}
use Rattle.rounds.proofs.Measure as measure
use Rattle.rounds.proofs.Bare.{bare_cheaper, bare_round_of, bare_round_on, bare_closed_on, bare_within}
use Rattle.rounds.proofs.Sizes.{round_rate, across_size, walk_weight_size, layer_weight_size}

module _ (k : Kind) (laws : Laws k) (m : Meaning) (W : Within k m) where
  J : LegsJoinPorts m
  J = legs_join_ports k m W

  module _ (c : Row) (t : ℕ) where
    pub layers_stand_lem : LayersStand k m c t
    layers_stand_lem = record {
      first = first_layer k laws m J (leg_weight m c t);
      next = next_layer k laws m J (leg_weight m c t);
      unchanged = same_settled k laws m J (leg_weight m c t);
      best = λ d s ns o. sym (weight_tells m c t k laws ns) ∙ settled_closed k laws m J (leg_weight m c t) d s ns o;
      marks = λ i d l s. settled_least k laws m J (leg_weight m c t) d s i l;
      one_mark = one_least k m (leg_weight m c t);
    }

    light_cheaper : (ns : List ℕ) → Round m ns → k.below (sum_of (leg_weight m c t) ns) zero_row ≡ true → CheaperRound k m c t ns
    light_cheaper ns r h = record { round = r; cheaper_than = sym (weight_tells m c t k laws ns) ∙ h }

    pub walks_back : (by : ℕ → ℕ → ℕ) (top : ℕ) (S : Layers k m (leg_weight m c t) by top) → WalksBack k m c t by top S
    walks_back by top S = record {
      lowered = lowered_in k laws m J (leg_weight m c t) by top S;
      leads = back_walk k laws m J (leg_weight m c t) by top S;
      as_many = length_back m by;
      parts_cheaper = λ i j v h l p xs ys zs e o. sym (weight_tells m c t k laws ys) ∙ back_light k laws m J (leg_weight m c t) by top S i j v h l p xs ys zs e o;
      first_repeat = λ i j v r l ns e. let o = repeat_round k laws m J (leg_weight m c t) by top S i j v r l ns e in light_cheaper ns o.0 o.1;
      repeats = last_repeats k laws m J (leg_weight m c t) by top S;
      last_layer = λ v h p. let o = last_round k laws m J (leg_weight m c t) by top S v h p in (o.0, light_cheaper o.0 o.1 o.2);
    }

  pub count_falls_lem : CountFalls k m
  count_falls_lem c t ns h r i = measure.count_falls_lem k laws m J c t ns h r.round i r.cheaper_than

  pub sizes_fit_lem : SizesFit k m
  sizes_fit_lem = record {
    rates = round_rate k laws m W;
    across = across_size k;
    weights = λ c t s u v ns r h. walk_weight_size k laws m W c t s ns u v r h;
    layers = λ c t s i d l h v b. layer_weight_size k laws m W c t s i d l h v b;
    figure = refl;
    exact = omega arith;
  }

pub bare_tells : (k : Kind) → Laws k → (cost : Row) → k.below cost zero_row ≡ true → (m : Meaning) → BareTells k m cost
bare_tells k laws cost low m = record {
  all_cheaper = λ idle. bare_cheaper idle cost m k laws low;
  finds = λ ns r. (bare_round_of false cost m ns r).0;
  found = λ ns r. bare_round_on false cost m ns r (λ e. clash e refl);
  none = λ best ns o. let b = bare_closed_on false cost m ns o (λ e. clash e refl) in clash (bare_cheaper false cost m k laws low ns b) (best ns b);
  finds_idle = λ ns r. let o = bare_round_of true cost m ns r in record { round = o.0; idle = o.1 refl };
  found_idle = λ ns r. bare_round_on true cost m ns r.round (λ e. r.idle);
  none_idle = λ best ns o z. let b = bare_closed_on true cost m ns o (λ e. z) in clash (bare_cheaper true cost m k laws low ns b) (best ns b);
  within = λ j idle W h. bare_within idle cost m j k W h;
}
