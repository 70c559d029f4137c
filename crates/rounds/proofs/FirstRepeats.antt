-- The first port that comes again on a walk back: the legs between are a round that weighs less than zero. Assumes nothing.
use Rattle.std.proofs.Common.{◌≡◌, ℕ, zero, suc, ◌+◌, ◌-◌, ◌<◌, ◌≤◌, true, ◌≢◌, ◌⊎◌, List, [], ◌∷◌, map, sym, refl, ap, ◌∙◌, subst, inl, inr, append-nil, arith}
use Rattle.std.proofs.lemmas.Bool.{cases_eq}
use Rattle.rows.specs.Rows.{Row, zero_row}
use Rattle.rows.specs.Kinds.{Kind, Laws}
use Rattle.charts.specs.Meaning.{Meaning}
use Rattle.rounds.specs.Legs.{leaves, LegsJoinPorts}
use Rattle.rounds.specs.Lists.{each_once, Turned}
use Rattle.rounds.specs.Walks.{Walk, ClosedWalk}
use Rattle.rounds.specs.Rounds.{Round}
use Rattle.rounds.specs.Rates.{sum_of}
use Rattle.rounds.specs.Layers.{Layers}
use Rattle.rounds.specs.WalksBack.{port_back, legs_back, LoweredIn, FirstRepeat}
use Rattle.rounds.proofs.Pigeonhole.{values, values_once, few_values}
use Rattle.rounds.proofs.Turns.{turn_any}
use Rattle.rounds.proofs.Walks.{sum_turned}
use Rattle.rounds.proofs.Rounds.{turned_round}
use Rattle.rounds.proofs.WalksBack.{back_zero, back_on, length_back, back, back_walk, back_light}

-- no value comes twice below c
abbrev pub Apart : (ℕ → ℕ) → ℕ → Type 0
Apart f c = (a b : ℕ) → a < b → b < c → f a ≢ f b

-- x is a value below c, or it is none
comes : (f : ℕ → ℕ) (x c : ℕ) → ((a : ℕ) × (a < c) × (f a ≡ x)) ⊎ ((a : ℕ) → a < c → f a ≢ x)
comes f x zero = inr (λ a h. absurd (omega arith))
comes f x (suc c) = go (comes f x c) (cases_eq (f c) x)
  where
    go : ((a : ℕ) × (a < c) × (f a ≡ x)) ⊎ ((a : ℕ) → a < c → f a ≢ x)
        → (f c ≡ x) ⊎ (f c ≡ x → ⊥) → ((a : ℕ) × (a < suc c) × (f a ≡ x)) ⊎ ((a : ℕ) → a < suc c → f a ≢ x)
    go p (inl e) = inl (c, omega arith, e)
    go (inl p) (inr e) = inl (p.0, omega (arith, p.1), p.2)
    go (inr p) (inr e) = inr (λ a h. by a h (cases_eq a c))
      where
        by : (a : ℕ) → a < suc c → (a ≡ c) ⊎ (a ≡ c → ⊥) → f a ≢ x
        by a h (inl q) g = e (sym (ap f q) ∙ g)
        by a h (inr q) g = p a (omega arith) g

-- the first value that comes again
record Again (f : ℕ → ℕ) (c : ℕ) : Type 0 where
  earlier : ℕ
  later : ℕ
  in_order : earlier < later
  early : later < c
  same : f earlier ≡ f later
  apart : Apart f later

first_again : (f : ℕ → ℕ) (c : ℕ) → Again f c ⊎ Apart f c
first_again f zero = inr (λ a b h i. absurd (omega arith))
first_again f (suc c) = go (first_again f c) (comes f (f c) c)
  where
    go : Again f c ⊎ Apart f c → ((a : ℕ) × (a < c) × (f a ≡ f c)) ⊎ ((a : ℕ) → a < c → f a ≢ f c) → Again f (suc c) ⊎ Apart f (suc c)
    go (inl r) q = inl (record { earlier = r.earlier; later = r.later; in_order = r.in_order; early = omega (arith, r.early); same = r.same; apart = r.apart })
    go (inr r) (inl q) = inl (record { earlier = q.0; later = c; in_order = q.1; early = omega arith; same = q.2; apart = r })
    go (inr r) (inr q) = inr (λ a b h i. by a b h i (cases_eq b c))
      where
        by : (a b : ℕ) → a < b → b < suc c → (b ≡ c) ⊎ (b ≡ c → ⊥) → f a ≢ f b
        by a b h i (inl e) g = q a (omega arith) (g ∙ ap f e)
        by a b h i (inr e) g = r a b h (omega arith) g

module _ (m : Meaning) (by : ℕ → ℕ → ℕ) where
  ports_back : (c j x : ℕ) → map (leaves m) (legs_back m by c j x) ≡ values (λ a. port_back m by (suc a) j x) c
  unfolding legs_back port_back values
  ports_back zero j x = refl
  ports_back (suc c) j x = ap (◌∷◌ (port_back m by (suc c) j x)) (ports_back c j x)

  -- the legs of a first repeat leave no port twice
  pub repeat_once : (c j x : ℕ) → FirstRepeat m by c j x → each_once (map (leaves m) (legs_back m by c j x)) ≡ true
  repeat_once c j x l = ap each_once (ports_back c j x) ∙ values_once (λ a. port_back m by (suc a) j x) c (λ a b h i e. go a b h i e (cases_eq (suc b) c))
    where
      go : (a b : ℕ) → a < b → b < c → port_back m by (suc a) j x ≡ port_back m by (suc b) j x → (suc b ≡ c) ⊎ (suc b ≡ c → ⊥) → ⊥
      go a b h i e (inr q) = l.others (suc a) (suc b) (omega arith) (omega arith) e
      go a b h i e (inl q) = l.others 0 (suc a) (omega arith) (omega arith) (back_zero m by j x ∙ sym (e ∙ ap (λ n. port_back m by n j x) q ∙ l.again))

module _ (k : Kind) (laws : Laws k) (m : Meaning) (J : LegsJoinPorts m) (w : ℕ → Row) (by : ℕ → ℕ → ℕ) (top : ℕ) (S : Layers k m w by top) where
  module _ (c j x : ℕ) (r : FirstRepeat m by c j x) (l : j ≤ top) where
    pub repeat_closed : ClosedWalk m (legs_back m by c j x)
    repeat_closed = record {
      port = x;
      some = omega (arith, length_back m by c j x, r.some);
      back = subst (λ u. Walk m u (legs_back m by c j x) x) r.again (back_walk k laws m J w by top S c j x r.deep l r.lowered);
    }

    pub repeat_light : k.below (sum_of w (legs_back m by c j x)) zero_row ≡ true
    repeat_light = back_light k laws m J w by top S c j x r.deep l r.lowered [] (legs_back m by c j x) [] (sym (append-nil _)) repeat_closed

    pub repeat_round : (ns : List ℕ) → Turned (legs_back m by c j x) ns → Round m ns × (k.below (sum_of w ns) zero_row ≡ true)
    repeat_round ns t =
        (turned_round m repeat_closed (repeat_once m by c j x r) t, ap (λ (y : Row). k.below y zero_row) (sum_turned w t) ∙ repeat_light)

  -- the first port that comes again on a walk back
  pub repeat_at : (a c j x : ℕ) → a < c → c ≤ j → j ≤ top → LoweredIn m by j x → port_back m by a j x ≡ port_back m by c j x
      → Apart (λ i. port_back m by i j x) c → FirstRepeat m by (c - a) (j - a) (port_back m by a j x)
  repeat_at a c j x h i l p e others =
      let r = back k laws m J w by top S a j x (omega arith) l p in
      let on : (b : ℕ) → port_back m by b (j - a) (port_back m by a j x) ≡ port_back m by (a + b) j x = λ b. sym (back_on m by a b j x) in
      let one : j - suc a ≡ j - a - 1 = omega arith in
      let all : a + (c - a) ≡ c = omega arith in
      record {
        some = omega arith;
        deep = omega arith;
        lowered = (r.port, omega arith, subst (λ n. 0 < by n (port_back m by a j x)) one (r.made (omega arith)));
        again = on (c - a) ∙ ap (λ n. port_back m by n j x) all ∙ sym e;
        others = λ b b₂ f g q. others (a + b) (a + b₂) (omega arith) (omega arith) (sym (on b) ∙ q ∙ on b₂);
      }

  -- as many legs back as there are ports
  pub last_repeats : (x : ℕ) → m.ports ≤ top → LoweredIn m by m.ports x → (c j y : ℕ) × FirstRepeat m by c j y × (j ≤ m.ports)
  last_repeats x h p = go (first_again (λ i. port_back m by i m.ports x) (suc m.ports))
    where
      go : Again (λ i. port_back m by i m.ports x) (suc m.ports) ⊎ Apart (λ i. port_back m by i m.ports x) (suc m.ports)
          → (c j y : ℕ) × FirstRepeat m by c j y × (j ≤ m.ports)
      go (inr q) = absurd (omega (arith, few_values (λ i. port_back m by i m.ports x) m.ports (suc m.ports) (λ a b. (back k laws m J w by top S a m.ports x (omega arith) h p).port) q))
      go (inl q) =
          let a = q.earlier in
          let c = q.later in
          (c - a, m.ports - a, port_back m by a m.ports x, repeat_at a c m.ports x q.in_order (omega (arith, q.early)) h p q.same q.apart, omega arith)

  pub last_round : (x : ℕ) → m.ports ≤ top → LoweredIn m by m.ports x → (ns : List ℕ) × Round m ns × (k.below (sum_of w ns) zero_row ≡ true)
  last_round x h p =
      let o = last_repeats x h p in
      let t = turn_any (legs_back m by o.0 o.1 o.2) (omega (arith, length_back m by o.0 o.1 o.2, o.3.some)) in
      let r = repeat_round o.0 o.1 o.2 o.3 (omega (arith, o.4)) t.new t.turned in
      (t.new, r.0, r.1)
