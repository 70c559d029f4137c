-- Walks that pass or leave a port twice: where they do, and what is left without the part between. Assumes nothing.
use Rattle.std.proofs.Common.{◌≡◌, ℕ, ◌+◌, ◌<◌, ◌≤◌, true, false, not, eqb, ◌⊎◌, List, [], ◌∷◌, ◌++◌, map, length, sym, refl, ap, ◌∙◌, subst, inl, inr, arith, length-append}
use lib.ListN.{length-map}
use Rattle.std.proofs.lemmas.Bool.{and_cases, not-false, eqb-true, or_cases}
use Rattle.rows.proofs.Order.{clash}
use Rattle.charts.specs.Meaning.{Meaning}
use Rattle.rounds.specs.Legs.{there, leaves, reaches, LegsJoinPorts}
use Rattle.rounds.specs.Lists.{stands_in, each_once}
use Rattle.rounds.specs.Walks.{Walk, ClosedWalk, Repeat}
use Rattle.rounds.proofs.Pigeonhole.{AllBelow, some_twice}
use Rattle.rounds.proofs.Walks.{join}

module _ (m : Meaning) where
  -- a walk cut at port x
  record Cut (u : ℕ) (ns : List ℕ) (v : ℕ) (x : ℕ) : Type 0 where
    front : List ℕ
    back : List ℕ
    whole : ns ≡ front ++ back
    to_x : Walk m u front x
    from_x : Walk m x back v

  abbrev cut_on : (n u v x : ℕ) (ns : List ℕ) → there m n ≡ true → leaves m n ≡ u → Cut (reaches m n) ns v x → Cut u (n ∷ ns) v x
  cut_on n u v x ns p q c = record { front = n ∷ c.front; back = c.back; whole = ap (◌∷◌ n) c.whole; to_x = (p, q, c.to_x); from_x = c.from_x }

  cut_reached : (ns : List ℕ) (u v x : ℕ) → Walk m u ns v → stands_in x (map (reaches m) ns) ≡ true → (c : Cut u ns v x) × (0 < length c.front)
  cut_reached [] u v x r h = clash h refl
  cut_reached (n ∷ ns) u v x r h = go (or_cases (eqb x (reaches m n)) _ h) (λ e. cut_reached ns (reaches m n) v x r.2 e)
    where
      go : (eqb x (reaches m n) ≡ true) ⊎ (stands_in x (map (reaches m) ns) ≡ true)
          → (stands_in x (map (reaches m) ns) ≡ true → (c : Cut (reaches m n) ns v x) × (0 < length c.front))
          → (c : Cut u (n ∷ ns) v x) × (0 < length c.front)
      go (inl e) rec =
          let same = eqb-true x (reaches m n) e in
          (record { front = n ∷ []; back = ns; whole = refl; to_x = (r.0, r.1, sym same); from_x = subst (λ y. Walk m y ns v) (sym same) r.2 }, omega arith)
      go (inr e) rec = let c = (rec e).0 in (cut_on n u v x ns r.0 r.1 c, omega arith)

  cut_left : (ns : List ℕ) (u v x : ℕ) → Walk m u ns v → stands_in x (map (leaves m) ns) ≡ true → (c : Cut u ns v x) × (0 < length c.back)
  cut_left [] u v x r h = clash h refl
  cut_left (n ∷ ns) u v x r h = go (or_cases (eqb x (leaves m n)) _ h) (λ e. cut_left ns (reaches m n) v x r.2 e)
    where
      go : (eqb x (leaves m n) ≡ true) ⊎ (stands_in x (map (leaves m) ns) ≡ true)
          → (stands_in x (map (leaves m) ns) ≡ true → (c : Cut (reaches m n) ns v x) × (0 < length c.back))
          → (c : Cut u (n ∷ ns) v x) × (0 < length c.back)
      go (inl e) rec =
          let same : u ≡ x = sym (eqb-true x (leaves m n) e ∙ r.1) in
          (record { front = []; back = n ∷ ns; whole = refl; to_x = same; from_x = (r.0, r.1 ∙ same, r.2) }, omega arith)
      go (inr e) rec = let c = rec e in (cut_on n u v x ns r.0 r.1 c.0, c.1)

  abbrev repeat_on : (n u v : ℕ) (ns : List ℕ) → there m n ≡ true → leaves m n ≡ u → Repeat m (reaches m n) ns v → Repeat m u (n ∷ ns) v
  repeat_on n u v ns p q l = record {
    port = l.port;
    before = n ∷ l.before;
    part = l.part;
    after = l.after;
    whole = ap (◌∷◌ n) l.whole;
    come = (p, q, l.come);
    some = l.some;
    again = l.again;
    go_on = l.go_on;
  }

  -- a walk that passes a port twice
  pub passes_twice : (ns : List ℕ) (u v : ℕ) → Walk m u ns v → each_once (u ∷ map (reaches m) ns) ≡ false → Repeat m u ns v
  passes_twice [] u v r h = clash refl h
  passes_twice (n ∷ ns) u v r h =
      go (and_cases (not (stands_in u (map (reaches m) (n ∷ ns)))) _ h) (λ e. passes_twice ns (reaches m n) v r.2 e)
    where
      go : (not (stands_in u (map (reaches m) (n ∷ ns))) ≡ false) ⊎ (each_once (map (reaches m) (n ∷ ns)) ≡ false)
          → (each_once (map (reaches m) (n ∷ ns)) ≡ false → Repeat m (reaches m n) ns v) → Repeat m u (n ∷ ns) v
      go (inl e) rec =
          let p = cut_reached (n ∷ ns) u v u r (not-false _ e) in
          let c = p.0 in
          record { port = u; before = []; part = c.front; after = c.back; whole = c.whole; come = refl; some = p.1; again = c.to_x; go_on = c.from_x }
      go (inr e) rec = repeat_on n u v ns r.0 r.1 (rec e)

  -- a walk that leaves a port twice, and goes on after the second time
  pub leaves_twice : (ns : List ℕ) (u v : ℕ) → Walk m u ns v → each_once (map (leaves m) ns) ≡ false → (l : Repeat m u ns v) × (0 < length l.after)
  leaves_twice [] u v r h = clash refl h
  leaves_twice (n ∷ ns) u v r h =
      go (and_cases (not (stands_in (leaves m n) (map (leaves m) ns))) _ h) (λ e. leaves_twice ns (reaches m n) v r.2 e)
    where
      go : (not (stands_in (leaves m n) (map (leaves m) ns)) ≡ false) ⊎ (each_once (map (leaves m) ns) ≡ false)
          → (each_once (map (leaves m) ns) ≡ false → (l : Repeat m (reaches m n) ns v) × (0 < length l.after))
          → (l : Repeat m u (n ∷ ns) v) × (0 < length l.after)
      go (inl e) rec =
          let p = cut_left ns (reaches m n) v (leaves m n) r.2 (not-false _ e) in
          let c = p.0 in (
            record {
              port = leaves m n;
              before = [];
              part = n ∷ c.front;
              after = c.back;
              whole = ap (◌∷◌ n) c.whole;
              come = sym r.1;
              some = omega arith;
              again = (r.0, refl, c.to_x);
              go_on = c.from_x;
            },
            p.1,
          )
      go (inr e) rec = let l = rec e in (repeat_on n u v ns r.0 r.1 l.0, l.1)

  -- a walk of as many legs as there are ports passes a port twice
  pub ports_reached : (ns : List ℕ) (u v : ℕ) → LegsJoinPorts m → Walk m u ns v → AllBelow m.ports (map (reaches m) ns)
  ports_reached [] u v J r = tt
  ports_reached (n ∷ ns) u v J r = ((J n r.0).1, ports_reached ns (reaches m n) v J r.2)

  pub ports_left : (ns : List ℕ) (u v : ℕ) → LegsJoinPorts m → Walk m u ns v → AllBelow m.ports (map (leaves m) ns)
  ports_left [] u v J r = tt
  ports_left (n ∷ ns) u v J r = ((J n r.0).0, ports_left ns (reaches m n) v J r.2)

  pub long_repeats : (ns : List ℕ) (u v : ℕ) → LegsJoinPorts m → u < m.ports → Walk m u ns v → m.ports ≤ length ns → Repeat m u ns v
  long_repeats ns u v J h r i =
      passes_twice ns u v r (some_twice m.ports (u ∷ map (reaches m) ns) (h, ports_reached ns u v J r) (omega (arith, length-map ns (reaches m))))

  module _ {u v : ℕ} {ns : List ℕ} (l : Repeat m u ns v) where
    pub part_closed : ClosedWalk m l.part
    part_closed = record { port = l.port; some = l.some; back = l.again }

    -- what is left without the part
    abbrev pub rest : List ℕ
    rest = l.before ++ l.after

    pub rest_walks : Walk m u rest v
    rest_walks = join m u l.port v l.before l.after l.come l.go_on

    pub rest_length : length l.part + length rest ≡ length ns
    rest_length = omega (arith, ap length l.whole, length-append l.before (l.part ++ l.after), length-append l.part l.after, length-append l.before l.after)
