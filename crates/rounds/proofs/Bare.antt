-- Walks and rounds of a bare chart. Assumes nothing.
use Rattle.std.proofs.Common.{◌≡◌, ℕ, ◌<◌, ◌≤◌, Bool, true, false, cond, ◌&&◌, ltb, List, [], ◌∷◌, map, sym, refl, ap, ◌∙◌, subst, arith}
use lib.ListN.{get_or-map, length-map}
use Rattle.std.proofs.lemmas.Bool.{ltb-false, le-ltb}
use Rattle.limits.specs.Numbers.{most_cost}
use Rattle.rows.specs.Rows.{Row, zero_row}
use Rattle.rows.specs.Kinds.{Kind, Laws}
use Rattle.rows.specs.Orders.{by_dollars, by_dollars_then_tonnes}
use Rattle.rows.proofs.Group.{sum_zero, times_one, times_zero_row}
use Rattle.rows.proofs.Order.{clash}
use Rattle.rows.proofs.Multiples.{sums_below}
use Rattle.charts.specs.Meaning.{Meaning, Shown, blank, leg, over, shown_at, Allowed, Within}
use Rattle.rounds.specs.Legs.{is_leg, shown_figures, there, figures_at, leaves, reaches}
use Rattle.rounds.specs.Lists.{each_once}
use Rattle.rounds.specs.Walks.{Walk, ClosedWalk}
use Rattle.rounds.specs.Rounds.{Round}
use Rattle.rounds.specs.Rates.{cost_of, hours_of, walk_cheaper}
use Rattle.rounds.specs.Bare.{less_one, bare_leg, bare_entry, bare}
use Rattle.rounds.proofs.Legs.{allowed}

pub bare_at : (idle : Bool) (cost : Row) (m : Meaning) (n : ℕ) → shown_at (bare idle cost m) n ≡ bare_entry idle cost (shown_at m n)
bare_at idle cost m n = get_or-map (bare_entry idle cost) m.entries n blank

-- a leg of the bare chart is a leg, and one of no hours where that is asked for
record Bared (idle : Bool) (cost : Row) (s s' : Shown) : Type 0 where
  is : is_leg s ≡ true
  from_same : (shown_figures s').from ≡ (shown_figures s).from
  to_same : (shown_figures s').to ≡ (shown_figures s).to
  hours_is : (shown_figures s').hours ≡ 1
  cost_is : (shown_figures s').cost ≡ cost
  no_hours : idle ≡ true → (shown_figures s).hours ≡ 0

bared_entry : (idle : Bool) (cost : Row) (s : Shown) → is_leg (bare_entry idle cost s) ≡ true → Bared idle cost s (bare_entry idle cost s)
bared_entry idle cost blank h = clash h refl
bared_entry idle cost over h = clash h refl
bared_entry idle cost (leg f) h = go (idle && ltb 0 f.hours) refl h
  where
    zero_hours : (idle && ltb 0 f.hours) ≡ false → idle ≡ true → f.hours ≡ 0
    zero_hours e i = omega (arith, ltb-false 0 f.hours (ap (λ b. b && ltb 0 f.hours) (sym i) ∙ e))

    go : (b : Bool) → (idle && ltb 0 f.hours) ≡ b → is_leg (cond b blank (leg (bare_leg cost f))) ≡ true → Bared idle cost (leg f) (cond b blank (leg (bare_leg cost f)))
    go true e q = clash q refl
    go false e q = record { is = refl; from_same = refl; to_same = refl; hours_is = refl; cost_is = refl; no_hours = zero_hours e }

-- and such a leg is a leg of the bare chart
kept_entry : (idle : Bool) (cost : Row) (s : Shown) → is_leg s ≡ true → (idle ≡ true → (shown_figures s).hours ≡ 0) → is_leg (bare_entry idle cost s) ≡ true
kept_entry idle cost blank h z = clash h refl
kept_entry idle cost over h z = clash h refl
kept_entry idle cost (leg f) h z = go idle refl
  where
    go : (b : Bool) → idle ≡ b → is_leg (cond (idle && ltb 0 f.hours) blank (leg (bare_leg cost f))) ≡ true
    go false e = rw e refl
    go true e =
        let x : ltb 0 f.hours ≡ false = le-ltb 0 f.hours (omega (arith, z e)) in
        rw (e, x) refl

module _ (idle : Bool) (cost : Row) (m : Meaning) where
  abbrev b : Meaning
  b = bare idle cost m

  bared : (n : ℕ) → there b n ≡ true → Bared idle cost (shown_at m n) (bare_entry idle cost (shown_at m n))
  bared n h = bared_entry idle cost (shown_at m n) (ap is_leg (sym (bare_at idle cost m n)) ∙ h)

  from_is : (n : ℕ) → there b n ≡ true → leaves b n ≡ leaves m n
  from_is n h = ap (λ (s : Shown). (shown_figures s).from) (bare_at idle cost m n) ∙ (bared n h).from_same

  to_is : (n : ℕ) → there b n ≡ true → reaches b n ≡ reaches m n
  to_is n h = ap (λ (s : Shown). (shown_figures s).to) (bare_at idle cost m n) ∙ (bared n h).to_same

  cost_is : (n : ℕ) → there b n ≡ true → (figures_at b n).cost ≡ cost
  cost_is n h = ap (λ (s : Shown). (shown_figures s).cost) (bare_at idle cost m n) ∙ (bared n h).cost_is

  hours_is : (n : ℕ) → there b n ≡ true → (figures_at b n).hours ≡ 1
  hours_is n h = ap (λ (s : Shown). (shown_figures s).hours) (bare_at idle cost m n) ∙ (bared n h).hours_is

  -- from the bare chart to the chart
  walk_of : (ns : List ℕ) (u v : ℕ) → Walk b u ns v → Walk m u ns v
  walk_of [] u v r = r
  walk_of (n ∷ ns) u v r = ((bared n r.0).is, sym (from_is n r.0) ∙ r.1, walk_of ns (reaches m n) v (subst (λ x. Walk b x ns v) (to_is n r.0) r.2))

  idle_of : (ns : List ℕ) (u v : ℕ) → Walk b u ns v → idle ≡ true → hours_of m ns ≡ 0
  idle_of [] u v r i = refl
  idle_of (n ∷ ns) u v r i = omega (arith, (bared n r.0).no_hours i, idle_of ns (reaches b n) v r.2 i)

  left_same : (ns : List ℕ) (u v : ℕ) → Walk b u ns v → map (leaves b) ns ≡ map (leaves m) ns
  left_same [] u v r = refl
  left_same (n ∷ ns) u v r = λ i. from_is n r.0 i ∷ left_same ns (reaches b n) v r.2 i

  pub bare_round_of : (ns : List ℕ) → Round b ns → Round m ns × (idle ≡ true → hours_of m ns ≡ 0)
  bare_round_of ns r =
      let c = r.closed in
      let u = c.port in (
        record {
          closed = record { port = u; some = c.some; back = walk_of ns u u c.back };
          once = ap each_once (sym (left_same ns u u c.back)) ∙ r.once;
          lowest = r.lowest;
        },
        idle_of ns u u c.back,
      )

  -- from the chart to the bare chart
  walk_on : (ns : List ℕ) (u v : ℕ) → Walk m u ns v → (idle ≡ true → hours_of m ns ≡ 0) → Walk b u ns v
  walk_on [] u v r z = r
  walk_on (n ∷ ns) u v r z =
      let t : there b n ≡ true = ap is_leg (bare_at idle cost m n) ∙ kept_entry idle cost (shown_at m n) r.0 (λ i. omega (arith, z i)) in
      (t, from_is n t ∙ r.1, subst (λ x. Walk b x ns v) (sym (to_is n t)) (walk_on ns (reaches m n) v r.2 (λ i. omega (arith, z i))))

  pub bare_closed_on : (ns : List ℕ) → ClosedWalk m ns → (idle ≡ true → hours_of m ns ≡ 0) → ClosedWalk b ns
  bare_closed_on ns c z = record { port = c.port; some = c.some; back = walk_on ns c.port c.port c.back z }

  pub bare_round_on : (ns : List ℕ) → Round m ns → (idle ≡ true → hours_of m ns ≡ 0) → Round b ns
  bare_round_on ns r z =
      let c = bare_closed_on ns r.closed z in
      record { closed = c; once = ap each_once (left_same ns c.port c.port c.back) ∙ r.once; lowest = r.lowest }

  pub bare_within : (j k : Kind) → Within j m → k.size cost ≤ most_cost → Within k b
  bare_within j k W h = record {
    some_port = W.some_port;
    few_ports = W.few_ports;
    few_entries = omega (arith, W.few_entries, length-map m.entries (bare_entry idle cost));
    legs_allowed = λ n f e.
        let t : there b n ≡ true = ap is_leg e in
        let a = allowed j m W n (bared n t).is in
        subst (Allowed k m.ports) (ap shown_figures e) (record {
          from_port = subst (λ u. u < m.ports) (sym (from_is n t)) a.from_port;
          to_port = subst (λ u. u < m.ports) (sym (to_is n t)) a.to_port;
          few_hours = omega (arith, hours_is n t);
          small_cost = subst (λ (c : Row). k.size c ≤ most_cost) (sym (cost_is n t)) h;
        });
  }

  module _ (k : Kind) (laws : Laws k) (low : k.below cost zero_row ≡ true) where
    cost_below : (ns : List ℕ) (n u v : ℕ) → Walk b u (n ∷ ns) v → k.below (cost_of b (n ∷ ns)) zero_row ≡ true
    cost_below [] n u v r = ap (λ (x : Row). k.below x zero_row) (sum_zero (figures_at b n).cost ∙ cost_is n r.0) ∙ low
    cost_below (n₁ ∷ ns) n u v r =
        let first : k.below (figures_at b n).cost zero_row ≡ true = ap (λ (x : Row). k.below x zero_row) (cost_is n r.0) ∙ low in
        ap (k.below (cost_of b (n ∷ (n₁ ∷ ns)))) (sym (sum_zero zero_row)) ∙ sums_below k laws _ _ _ _ first (cost_below ns n₁ (reaches b n) v r.2)

    pub bare_cheaper : (ns : List ℕ) → ClosedWalk b ns → walk_cheaper k b ns zero_row 1 ≡ true
    bare_cheaper [] c = absurd (omega (arith, c.some))
    bare_cheaper (n ∷ ns) c =
        (λ i. k.below (times_one (cost_of b (n ∷ ns)) i) (times_zero_row (hours_of b (n ∷ ns)) i)) ∙ cost_below ns n c.port c.port c.back

-- a dollar less is below zero, and small
pub less_one_dollars : (by_dollars.below less_one zero_row ≡ true) × (by_dollars.size less_one ≤ most_cost)
unfolding zero_row
less_one_dollars = (refl, omega arith)

pub less_one_tonnes : (by_dollars_then_tonnes.below less_one zero_row ≡ true) × (by_dollars_then_tonnes.size less_one ≤ most_cost)
unfolding zero_row
less_one_tonnes = (refl, omega arith)
