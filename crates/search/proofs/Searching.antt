-- The way up through the layers. Assumes nothing.
use Rattle.std.proofs.Common.{◌≡◌, ℕ, suc, ◌+◌, ◌-◌, ◌*◌, ◌<◌, ◌≤◌, true, false, ◌⊎◌, List, length, get_or, take, sym, refl, ap, ◌∙◌, subst, inl, inr, mul-le-mul_right, suc-mul, add-one, arith}
use borrow.Rule.Slice.PartMut.{put_mid}
use Rattle.rows.specs.Rows.{Row, zero_row}
use Rattle.rows.specs.Kinds.{Kind, Laws, cheaper}
use Rattle.costs.specs.declared.rate.Rate.{Rate}
use Rattle.charts.specs.Meaning.{Meaning}
use Rattle.rounds.specs.Legs.{LegsJoinPorts}
use Rattle.rounds.specs.Rates.{cost_of, hours_of}
use Rattle.rounds.specs.Layers.{Layer, Same, Lower, Relaxed, Settled}
use Rattle.rounds.specs.Sizes.{most_leg_weight}
use Rattle.rounds.specs.WalksBack.{LoweredIn}
use Rattle.rounds.proofs.Legs.{legs_join_ports}
use Rattle.rounds.proofs.Walks.{sum_turned, hours_turned}
use Rattle.rounds.proofs.Weights.{weight_tells}
use Rattle.rounds.proofs.Relaxing.{relaxed_like}
use Rattle.rounds.proofs.Layers.{layer_of, layer_like, layers_more}
use Rattle.rounds.proofs.Settled.{same_settled, settled_closed, settled_least}
use Rattle.rounds.proofs.FirstRepeats.{repeat_round}
use Rattle.rounds.proofs.Sizes.{layer_size}
use Rattle.search.specs.declared.round.Held.{Held}
use Rattle.search.specs.Layer.{row_at, weights, Ready, LayerCopied, Relaxing}
use Rattle.search.specs.Predecessors.{pred_at, Led}
use Rattle.search.specs.Back.{OnTheWay}
use Rattle.search.specs.Look.{Written}
use Rattle.search.specs.Search.{Climbed, SomeLowered, Least, Cheaper}
use Rattle.search.proofs.WalkingBack.{in_table, layers_led, layers_way}
use Rattle.search.proofs.Parts.{put_below, put_in}

module _ {K : Type 0} {k : Kind} (laws : Laws k) {row : K → Row} {m : Meaning} {rate : Rate K} (R : Ready k row m rate) where
  abbrev w : ℕ → Row
  w = weights row m rate

  J : LegsJoinPorts m
  J = legs_join_ports k m R.within

  -- zero at every port
  pub ground : {table : List ℕ} (costs next : List K) → length costs ≡ m.ports → next ≡ costs → length table ≡ m.ports * m.ports
      → ((i : ℕ) → i < length costs → row_at row costs i ≡ zero_row) → Climbed k row m rate table costs next 0
  ground costs next l same e z = record {
    layers = record { row = λ i v. zero_row; start = λ v. refl; steps = λ i h. absurd (omega arith) };
    reached = λ v b. sym (z v (omega arith));
    copied = λ v b. ap (λ (l : List K). row_at row l v) same;
    one_layer = l;
    next_layer = ap length same ∙ l;
    rows = e;
    few = omega arith;
  }

  module _ {table : List ℕ} {costs next : List K} {top : ℕ} (S : Climbed k row m rate table costs next top) where
    here : Layer k m w top (row_at row costs)
    here = layer_like k laws m J w top (S.layers.row top) (row_at row costs) S.reached (layer_of k laws m J w (pred_at m.ports table) top S.layers top (omega arith))

    -- a layer before the last is small enough for one leg more
    pub ready_to_relax : top < m.ports → LayerCopied k row m costs next
    ready_to_relax h = record {
      one_layer = S.one_layer;
      next_layer = S.next_layer;
      small = λ v b.
          let early : top ≤ 255 = omega (arith, R.within.few_ports) in
          let x : top * most_leg_weight ≤ 255 * most_leg_weight = mul-le-mul_right most_leg_weight early in
          omega (arith, layer_size k laws m R.within (row rate.cost) rate.hours R.small_rate top (row_at row costs) here v b);
      copied = S.copied;
    }

    -- the table leads back through the layers, as rows of so many places
    pub tabled : {ports : ℕ} → ports ≡ m.ports → Led k m ports table top
    tabled e = subst (λ p. Led k m p table top) (sym e) (layers_led k laws m R.within w table top S.layers S.few (omega (arith, S.rows)))

    pub way_back : {ports : ℕ} → ports ≡ m.ports → {x : ℕ} → LoweredIn m (pred_at m.ports table) top x → OnTheWay m ports table top x top
    way_back e {x} low = subst (λ p. OnTheWay m p table top x top) (sym e) (layers_way k laws m R.within w table top S.layers x low)

    -- a first repeat, turned, is a cheaper round
    pub cheaper_found : {ports : ℕ} → ports ≡ m.ports → {buffer : List ℕ} {h : Held K} → Written row m ports table top buffer h → Cheaper k row m rate buffer h
    cheaper_found e {buffer} {h} written =
        let F = subst (λ p. Written row m p table top buffer h) e written in
        let r = F.found.repeat in
        let ns = take h.legs buffer in
        let t = F.known.totals in
        let s = F.known.repeats in
        let o = repeat_round k laws m J w (pred_at m.ports table) top S.layers r.legs r.layer r.port s.first s.deep ns F.turned in
        let cost_is : row h.rate.cost ≡ cost_of m ns = ap (λ (x : Rate K). row x.cost) F.rate_is ∙ t.cost ∙ sym (sum_turned _ F.turned) in
        let hours_is : h.rate.hours ≡ hours_of m ns = ap (λ (x : Rate K). x.hours) F.rate_is ∙ t.hours ∙ sym (hours_turned m F.turned) in
        record {
          holds = record { few = omega (arith, F.legs_are, s.first.deep, s.deep, S.few); round = o.0; totals = record { cost = cost_is; hours = hours_is } };
          cheaper_than = (λ i. cheaper k (cost_is i) (hours_is i) (row rate.cost) rate.hours) ∙ sym (weight_tells m (row rate.cost) rate.hours k laws ns) ∙ o.1;
        }

    -- after trying every leg
    module _ {made : List K} {row_new : List ℕ} where
      -- nothing became lower
      pub least : Relaxing k row m rate costs made row_new (length m.entries) false → Least k row m rate costs
      least T =
          let settled : Settled k m w (row_at row costs) = same_settled k laws m J w (row_at row costs) (row_at row made) (λ v. get_or row_new v 0) T.relaxed (λ v b. kept v (T.relaxed.made v b) (T.none refl v b)) in
          record {
            best = λ ns o. sym (weight_tells m (row rate.cost) rate.hours k laws ns) ∙ settled_closed k laws m J w (row_at row costs) settled ns o;
            marks = settled_least k laws m J w (row_at row costs) settled top here;
          }
        where
          kept : (v : ℕ) → Same k m w (row_at row costs) (row_at row made) (λ v. get_or row_new v 0) v ⊎ Lower k m w (row_at row costs) (row_at row made) (λ v. get_or row_new v 0) v
              → get_or row_new v 0 ≡ 0 → k.below (row_at row made v) (row_at row costs v) ≡ false
          kept v (inl o) z = ap (λ (y : Row). k.below y (row_at row costs v)) o.same ∙ laws.irreflexive (row_at row costs v)
          kept v (inr o) z = absurd (omega (arith, o.made_by))

      -- something became lower; the new row stands from place a on
      module _ (h : top < m.ports) (T : Relaxing k row m rate costs made row_new (length m.entries) true) (a n : ℕ) (a_is : a ≡ top * m.ports) where
        abbrev table_new : List ℕ
        table_new = put_mid a n table row_new

        fits : a + m.ports ≤ length table
        fits =
            let x : suc top * m.ports ≤ m.ports * m.ports = mul-le-mul_right m.ports h in
            omega (arith, suc-mul top m.ports, S.rows, a_is)

        old_rows : (i v : ℕ) → i < top → v < m.ports → pred_at m.ports table_new i v ≡ pred_at m.ports table i v
        unfolding pred_at
        old_rows i v b u = put_below a n table row_new (i * m.ports + v) 0 (rw a_is (in_table i top m.ports v (top * m.ports) b u (omega arith))) (omega (arith, fits))

        new_row : (v : ℕ) → v < m.ports → pred_at m.ports table_new top v ≡ get_or row_new v 0
        unfolding pred_at
        new_row v u = ap (λ i. get_or table_new (i + v) 0) (sym a_is) ∙ put_in a n table row_new v 0 (omega (arith, T.one_row)) (omega (arith, fits))

        pub climbs : (new : List K) → length table_new ≡ length table → new ≡ made → Climbed k row m rate table_new new made (top + 1)
        climbs new e copy =
            let s : Relaxed k m w (row_at row costs) (row_at row made) (pred_at m.ports table_new top) (length m.entries)
            = relaxed_like k m w J (row_at row costs) (row_at row made) (row_at row costs) (row_at row made) (λ v. get_or row_new v 0) (pred_at m.ports table_new top) (length m.entries) (λ v b. refl) (λ v b. refl) new_row T.relaxed in
            let o = layers_more k m J w (pred_at m.ports table) (pred_at m.ports table_new) top S.layers (row_at row costs) (row_at row made) S.reached s old_rows in
            subst (Climbed k row m rate table_new new made) (sym (add-one top)) (record {
              layers = o.0;
              reached = λ v b. o.1 v ∙ ap (λ (l : List K). row_at row l v) (sym copy);
              copied = λ v b. ap (λ (l : List K). row_at row l v) (sym copy);
              one_layer = ap length copy ∙ T.next_layer;
              next_layer = T.next_layer;
              rows = e ∙ S.rows;
              few = h;
            })

        pub some_lowered : SomeLowered m table_new (top + 1)
        some_lowered =
            let o = T.some refl in
            let e : top ≡ top + 1 - 1 = omega arith in
            (o.0, (o.1, omega arith, subst (λ i. 0 < pred_at m.ports table_new i o.0) e (omega (arith, o.2, new_row o.0 o.1))))
