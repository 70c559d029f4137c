-- One leg back more. Assumes nothing.
use Rattle.std.proofs.Common.{◌≡◌, ℕ, zero, suc, ◌+◌, ◌-◌, ◌*◌, ◌<◌, ◌≤◌, true, ◌⊎◌, List, length, get_or, set, refl, sym, ap, ◌∙◌, subst, inl, inr, mul-le-mul_right, suc-mul, arith, length-set}
use Rattle.std.proofs.lemmas.List.{get_or-set_same, get_or-set_other}
use Rattle.std.proofs.lemmas.Bool.{cases_eq}
use Rattle.rows.specs.Rows.{Row}
use Rattle.rows.specs.Kinds.{Kind, Laws}
use Rattle.charts.specs.Meaning.{Meaning, Within}
use Rattle.rounds.specs.Legs.{there, leaves, reaches, LegsJoinPorts}
use Rattle.rounds.specs.Layers.{Same, Lower, Layers}
use Rattle.rounds.specs.Walks.{Walk}
use Rattle.rounds.specs.WalksBack.{port_back, legs_back, LoweredIn}
use Rattle.rounds.proofs.Legs.{legs_join_ports}
use Rattle.rounds.proofs.Pigeonhole.{few_values}
use Rattle.rounds.proofs.WalksBack.{back, back_zero, back_suc, back_on}
use Rattle.search.specs.declared.back.Repeat.{Repeat}
use Rattle.search.specs.Predecessors.{pred_at, Led}
use Rattle.search.specs.Back.{OnTheWay, Walking, Repeats}
use Rattle.search.specs.Round.{Traced}

pub in_table : (i top p v len : ℕ) → i < top → v < p → top * p ≤ len → i * p + v < len
in_table i top p v len h b l =
    let x : suc i * p ≤ top * p = mul-le-mul_right p h in
    omega (arith, suc-mul i p)

module _ {k : Kind} {m : Meaning} {width : ℕ} {table : List ℕ} {top : ℕ} (L : Led k m width table top) where
  abbrev by : ℕ → ℕ → ℕ
  by = pred_at width table

  -- a walk back from port x
  module _ {x : ℕ} where
    pub walk_starts : (seen : List ℕ) (c : ℕ) → c ≡ 0 → x < m.ports → length seen ≡ m.ports → ((u : ℕ) → u < m.ports → get_or seen u 0 ≡ 0) → Walking m width table top x seen c x
    walk_starts seen c none b l z =
        subst (λ n. Walking m width table top x seen n x) (sym none) (record {
          is = sym (back_zero m by top x);
          long = l;
          marked = λ a h. absurd (omega arith);
          fresh = z x b;
          others = λ u b h. absurd (omega (arith, z u b));
          way = λ a h. absurd (omega arith);
          port = b;
        })

    module _ {seen : List ℕ} {c at : ℕ} (left : ℕ) (h : left + 1 + c ≡ top) (S : Walking m width table top x seen c at) where
      -- leg n leads on
      module _ (n : ℕ) (row : by left at ≡ n + 1) where
        way_on : OnTheWay m width table top x (suc c)
        way_on a b = go (cases_eq a c)
          where
            go : (a ≡ c) ⊎ (a ≡ c → ⊥) → (port_back m by a top x < m.ports) × (0 < by (top - suc a) (port_back m by a top x))
            go (inr e) = S.way a (omega arith)
            go (inl e) =
                let same : at ≡ port_back m by a top x = S.is ∙ ap (λ i. port_back m by i top x) (sym e) in
                let i : left ≡ top - suc a = omega arith in
                let o : 0 < by left at = omega arith in
                (subst (λ u. u < m.ports) same S.port, subst (λ n. 0 < n) (λ j. by (i j) (same j)) o)

        marks : (a : ℕ) → a < suc c → get_or (set seen at (left + 1)) (port_back m by a top x) 0 ≡ top - a
        marks a b = go (cases_eq a c)
          where
            go : (a ≡ c) ⊎ (a ≡ c → ⊥) → get_or (set seen at (left + 1)) (port_back m by a top x) 0 ≡ top - a
            go (inl e) =
                let i : left + 1 ≡ top - a = omega arith in
                ap (λ u. get_or (set seen at (left + 1)) u 0) (ap (λ n. port_back m by n top x) e ∙ sym S.is)
                ∙ get_or-set_same seen at (left + 1) 0 (omega (arith, S.port, S.long))
                ∙ i
            go (inr e) =
                let d = S.marked a (omega arith) in
                get_or-set_other seen at (port_back m by a top x) (left + 1) 0 (λ f. absurd (omega (arith, ap (λ u. get_or seen u 0) f, S.fresh, d))) ∙ d

        who : (u : ℕ) → u < m.ports → 0 < get_or (set seen at (left + 1)) u 0 → (a : ℕ) × (a < suc c) × (port_back m by a top x ≡ u)
        who u b p = go (cases_eq u at)
          where
            go : (u ≡ at) ⊎ (u ≡ at → ⊥) → (a : ℕ) × (a < suc c) × (port_back m by a top x ≡ u)
            go (inl e) = (c, omega arith, sym (e ∙ S.is))
            go (inr e) = let o = S.others u b (subst (λ n. 0 < n) (get_or-set_other seen at u (left + 1) 0 e) p) in (o.0, omega (arith, o.1), o.2)

        -- the next port
        module _ (y : ℕ) (leaves_y : y ≡ leaves m n) where
          y_is : y ≡ port_back m by (suc c) top x
          y_is =
              let e : left ≡ top - suc c = omega arith in
              let s : by (top - suc c) (port_back m by c top x) ≡ n + 1 = (λ i. by (sym e i) (sym S.is i)) ∙ row in
              let t : n ≡ by (top - suc c) (port_back m by c top x) - 1 = omega arith in
              leaves_y ∙ ap (leaves m) t ∙ sym (back_suc m by c top x)

          pub y_port : y < m.ports
          y_port =
              let o : there m (by left at - 1) ≡ true = (L.legs left at (omega arith) S.port (omega arith)).0 in
              let e : by left at - 1 ≡ n = omega arith in
              subst (λ u. u < m.ports) (sym leaves_y) (legs_join_ports k m L.within n (ap (there m) (sym e) ∙ o)).0

          pub walk_goes_on : (b : ℕ) → b ≡ suc c → get_or (set seen at (left + 1)) y 0 ≡ 0 → Walking m width table top x (set seen at (left + 1)) b y
          walk_goes_on b more z =
              subst (λ n. Walking m width table top x (set seen at (left + 1)) n y) (sym more)
              (record { is = y_is; long = length-set seen at (left + 1) ∙ S.long; marked = marks; fresh = z; others = who; way = way_on; port = y_port })

          module _ (met : ℕ) (was : met ≡ get_or (set seen at (left + 1)) y 0) (some : 0 < met) where
            again : (a : ℕ) × (a < suc c) × (port_back m by a top x ≡ y)
            again = who y y_port (subst (λ n. 0 < n) was some)

            met_is : met ≡ top - again.0
            met_is = was ∙ ap (λ u. get_or (set seen at (left + 1)) u 0) (sym again.2) ∙ marks again.0 again.1

            module _ (r : Repeat) (legs : r.legs ≡ met - left) (place : (r.layer ≡ met) × (r.port ≡ y)) where
              -- the repeat begins a legs back
              begins : ℕ
              begins = again.0

              begins_early : begins < suc c
              unfolding begins
              begins_early = again.1

              ends : begins + r.legs ≡ suc c
              unfolding begins
              ends = omega (arith, met_is, again.1)

              layer_is : r.layer ≡ top - begins
              unfolding begins
              layer_is = place.0 ∙ met_is

              -- its ports are ports of the walk
              ports_are : (b : ℕ) → port_back m by b r.layer r.port ≡ port_back m by (begins + b) top x
              unfolding begins
              ports_are b = (λ i. port_back m by b (layer_is i) ((place.1 ∙ sym again.2) i)) ∙ sym (back_on m by again.0 b top x)

              its_way : OnTheWay m width table r.layer r.port r.legs
              its_way b i =
                  let w = way_on (begins + b) (omega (arith, ends)) in
                  let e : top - suc (begins + b) ≡ r.layer - suc b = omega (arith, layer_is) in
                  (subst (λ u. u < m.ports) (sym (ports_are b)) w.0, subst (λ n. 0 < n) (λ j. by (e j) (sym (ports_are b) j)) w.1)

              pub comes_again : Repeats m width table top r
              comes_again =
                  let some_legs : 0 < r.legs = omega (arith, begins_early, ends) in
                  let w = its_way 0 some_legs in
                  let here : port_back m by 0 r.layer r.port ≡ r.port = back_zero m by r.layer r.port in
                  record {
                    deep = omega (arith, layer_is);
                    first = record {
                      some = some_legs;
                      deep = omega (arith, ends, layer_is);
                      lowered = (subst (λ u. u < m.ports) here w.0, omega (arith, layer_is, begins_early), subst (λ u. 0 < by (r.layer - 1) u) here w.1);
                      again = ports_are r.legs ∙ ap (λ n. port_back m by n top x) ends ∙ sym y_is ∙ sym place.1;
                      others = λ b₁ b₂ i j f.
                          absurd (omega (
                            arith,
                            ends,
                            marks (begins + b₁) (omega (arith, ends)),
                            marks (begins + b₂) (omega (arith, ends)),
                            ap (λ u. get_or (set seen at (left + 1)) u 0) (sym (ports_are b₁) ∙ f ∙ ports_are b₂),
                          ));
                    };
                    way = its_way;
                  }

    -- no port came again, so there are more ports than layers
    pub never_again : {seen : List ℕ} {c at : ℕ} → c ≡ top → Walking m width table top x seen c at → top < m.ports
    never_again {seen} {c} {at} all W = few_values (λ a. port_back m by a top x) m.ports (suc top) (λ a h. port a h (cases_eq a top)) (λ a b h i e. go a b h e (cases_eq b top) i)
      where
        S : Walking m width table top x seen top at
        S = subst (λ n. Walking m width table top x seen n at) all W

        port : (a : ℕ) → a < suc top → (a ≡ top) ⊎ (a ≡ top → ⊥) → port_back m by a top x < m.ports
        port a h (inl e) = subst (λ u. u < m.ports) (S.is ∙ ap (λ n. port_back m by n top x) (sym e)) S.port
        port a h (inr e) = (S.way a (omega arith)).0

        go : (a b : ℕ) → a < b → port_back m by a top x ≡ port_back m by b top x → (b ≡ top) ⊎ (b ≡ top → ⊥) → b < suc top → ⊥
        go a b h e (inl f) i =
            let z : get_or seen (port_back m by a top x) 0 ≡ 0 = ap (λ u. get_or seen u 0) (e ∙ ap (λ n. port_back m by n top x) f ∙ sym S.is) ∙ S.fresh in
            omega (arith, S.marked a (omega arith))
        go a b h e (inr f) i = omega (arith, S.marked a (omega arith), S.marked b (omega arith), ap (λ u. get_or seen u 0) e)

  -- the legs of a repeat stand in the table, and are there
  module _ {r : Repeat} (R : Repeats m width table top r) where
    row_below : (a : ℕ) → a < r.legs → r.layer - suc a < top
    row_below a h = omega (arith, R.first.deep, R.deep)

    its_leg : (a : ℕ) → a < r.legs → (there m (by (r.layer - suc a) (port_back m by a r.layer r.port) - 1) ≡ true) × (reaches m (by (r.layer - suc a) (port_back m by a r.layer r.port) - 1) ≡ port_back m by a r.layer r.port)
    its_leg a h = let w = R.way a h in L.legs (r.layer - suc a) (port_back m by a r.layer r.port) (row_below a h) w.0 w.1

    leads : (a : ℕ) → a ≤ r.legs → Walk m (port_back m by a r.layer r.port) (legs_back m by a r.layer r.port) r.port
    unfolding port_back legs_back
    leads zero h = refl
    leads (suc a) h =
        let o = its_leg a h in
        (o.0, refl, subst (λ u. Walk m u (legs_back m by a r.layer r.port) r.port) (sym o.1) (leads a (omega arith)))

    pub traced : Traced k m width table r
    traced = record {
      within = L.within;
      some = R.first.some;
      deep = R.first.deep;
      few = omega (arith, R.first.deep, R.deep, L.few);
      stands = λ a h. L.stands (r.layer - suc a) _ (row_below a h) (R.way a h).0;
      made = λ a h. (R.way a h).1;
      is_there = λ a h. (its_leg a h).0;
      leads = leads;
    }

-- a table through layers
module _ (k : Kind) (laws : Laws k) (m : Meaning) (W : Within k m) (w : ℕ → Row) (table : List ℕ) (top : ℕ) (T : Layers k m w (pred_at m.ports table) top) where
  abbrev J : LegsJoinPorts m
  J = legs_join_ports k m W

  pub layers_led : top ≤ m.ports → m.ports * m.ports ≤ length table → Led k m m.ports table top
  layers_led few long = record {
    within = W;
    few = few;
    stands = λ i v h b. in_table i m.ports m.ports v (length table) (omega arith) b long;
    legs = λ i v h b some. go i v some ((T.steps i h).made v b);
  }
    where
      go : (i v : ℕ) → 0 < pred_at m.ports table i v → Same k m w (T.row i) (T.row (suc i)) (pred_at m.ports table i) v ⊎ Lower k m w (T.row i) (T.row (suc i)) (pred_at m.ports table i) v
          → (there m (pred_at m.ports table i v - 1) ≡ true) × (reaches m (pred_at m.ports table i v - 1) ≡ v)
      go i v some (inl o) = absurd (omega (arith, o.none))
      go i v some (inr o) =
          let e : o.number ≡ pred_at m.ports table i v - 1 = omega (arith, o.made_by) in
          (subst (λ n. there m n ≡ true) e o.is_there, subst (λ n. reaches m n ≡ v) e o.to)

  -- from a port made lower every port on the way has a predecessor
  pub layers_way : (x : ℕ) → LoweredIn m (pred_at m.ports table) top x → OnTheWay m m.ports table top x top
  layers_way x low a b =
      let r = back k laws m J w (pred_at m.ports table) top T a top x (omega arith) (omega arith) low in
      (r.port, r.made b)
