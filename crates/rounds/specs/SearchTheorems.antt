-- What is proved of layers, walks back, the measure, bare charts and sizes, as statements. Assumes nothing.
use Rattle.std.specs.Prelude.{◌≡◌, ℕ, suc, ◌*◌, ◌<◌, ◌≤◌, Bool, true, false, List, ◌++◌, length, ◌≢◌}
use Rattle.limits.specs.Numbers.{most_cost, exact_size}
use Rattle.rows.specs.Rows.{Row, zero_row}
use Rattle.rows.specs.Kinds.{Kind, Level}
use Rattle.charts.specs.Meaning.{Meaning, Within}
use Rattle.rounds.specs.Lists.{Turned}
use Rattle.rounds.specs.Walks.{Walk, ClosedWalk}
use Rattle.rounds.specs.Rounds.{Round}
use Rattle.rounds.specs.Rates.{cost_of, hours_of, walk_cheaper, leg_weight, weight, IdleRound, CheaperRound, Best}
use Rattle.rounds.specs.Marks.{Mark}
use Rattle.rounds.specs.Layers.{Layer, Relaxed, Settled, Layers}
use Rattle.rounds.specs.WalksBack.{port_back, legs_back, LoweredIn, FirstRepeat}
use Rattle.rounds.specs.Measure.{cheaper_count}
use Rattle.rounds.specs.Bare.{bare}
use Rattle.rounds.specs.Sizes.{SmallRate, most_weight}

module _ (k : Kind) (m : Meaning) (c : Row) (t : ℕ) where
  -- what each leg weighs against cost c in t hours
  abbrev w : ℕ → Row
  w = leg_weight m c t

  -- layer after layer; one that trying every leg leaves as it was is the marks, and no closed walk is cheaper
  pub record LayersStand : Type 0 where
    pub first : Layer k m w 0 (λ v. zero_row)
    pub next : (i : ℕ) (d e : ℕ → Row) (by : ℕ → ℕ) → Layer k m w i d → Relaxed k m w d e by (length m.entries) → Layer k m w (suc i) e
    pub unchanged : (d e : ℕ → Row) (by : ℕ → ℕ) → Relaxed k m w d e by (length m.entries)
        → ((v : ℕ) → v < m.ports → k.below (e v) (d v) ≡ false) → Settled k m w d
    pub best : (d : ℕ → Row) → Settled k m w d → Best k m c t
    pub marks : (i : ℕ) (d : ℕ → Row) → Layer k m w i d → Settled k m w d → (v : ℕ) → v < m.ports → Mark k m c t v (d v)
    -- two marks of one port are level
    pub one_mark : (v : ℕ) (x y : Row) → Mark k m c t v x → Mark k m c t v y → Level k x y

  -- the walks back from a port that a layer made lower
  pub record WalksBack (by : ℕ → ℕ → ℕ) (top : ℕ) (S : Layers k m w by top) : Type 0 where
    -- what is lower in a layer than in the one before was made so by a leg
    pub lowered : (j v : ℕ) → j < top → v < m.ports → k.below (S.row (suc j) v) (S.row j v) ≡ true → LoweredIn m by (suc j) v
    -- as many legs lead back as there are layers
    pub leads : (i j v : ℕ) → i ≤ j → j ≤ top → LoweredIn m by j v → Walk m (port_back m by i j v) (legs_back m by i j v) v
    pub as_many : (i j v : ℕ) → length (legs_back m by i j v) ≡ i
    -- every closed part is cheaper
    pub parts_cheaper : (i j v : ℕ) → i ≤ j → j ≤ top → LoweredIn m by j v
        → (xs ys zs : List ℕ) → legs_back m by i j v ≡ xs ++ (ys ++ zs) → ClosedWalk m ys → walk_cheaper k m ys c t ≡ true
    -- the first repeat, turned to its lowest number, is a cheaper round
    pub first_repeat : (i j v : ℕ) → FirstRepeat m by i j v → j ≤ top → (ns : List ℕ) → Turned (legs_back m by i j v) ns → CheaperRound k m c t ns
    -- where there are as many layers as ports, there is a first repeat, and so a cheaper round
    pub repeats : (v : ℕ) → m.ports ≤ top → LoweredIn m by m.ports v → (i j u : ℕ) × FirstRepeat m by i j u × (j ≤ m.ports)
    pub last_layer : (v : ℕ) → m.ports ≤ top → LoweredIn m by m.ports v → (ns : List ℕ) × CheaperRound k m c t ns

  -- for all layers
  abbrev pub WalksBackFind : Type 0
  WalksBackFind = (by : ℕ → ℕ → ℕ) (top : ℕ) (S : Layers k m w by top) → WalksBack by top S

-- a cheaper round in the place of a rate: fewer are cheaper
abbrev pub CountFalls : Kind → Meaning → Type 0
CountFalls k m = (c : Row) (t : ℕ) (ns : List ℕ) → 0 < t → CheaperRound k m c t ns → 0 < hours_of m ns
    → cheaper_count k m (cost_of m ns) (hours_of m ns) < cheaper_count k m c t

-- asking the bare chart, at a cost below zero, for what is cheaper than no cost in one hour finds a round exactly when there is one
pub record BareTells (k : Kind) (m : Meaning) (cost : Row) : Type 0 where
  -- every closed walk is so cheap
  pub all_cheaper : (idle : Bool) (ns : List ℕ) → ClosedWalk (bare idle cost m) ns → walk_cheaper k (bare idle cost m) ns zero_row 1 ≡ true
  -- the same rounds stand on the bare chart and on the chart
  pub finds : (ns : List ℕ) → Round (bare false cost m) ns → Round m ns
  pub found : (ns : List ℕ) → Round m ns → Round (bare false cost m) ns
  pub none : Best k (bare false cost m) zero_row 1 → (ns : List ℕ) → ClosedWalk m ns → ⊥
  -- with idle, the idle rounds of the chart are the rounds of the bare chart
  pub finds_idle : (ns : List ℕ) → Round (bare true cost m) ns → IdleRound m ns
  pub found_idle : (ns : List ℕ) → IdleRound m ns → Round (bare true cost m) ns
  pub none_idle : Best k (bare true cost m) zero_row 1 → (ns : List ℕ) → ClosedWalk m ns → hours_of m ns ≢ 0
  -- the bare chart keeps the limits, whatever kind the chart has
  pub within : (j : Kind) (idle : Bool) → Within j m → k.size cost ≤ most_cost → Within k (bare idle cost m)

-- under the limits, rates and weights stay within what arithmetic on costs is exact for
pub record SizesFit (k : Kind) (m : Meaning) : Type 0 where
  pub rates : (ns : List ℕ) → Round m ns → SmallRate k (cost_of m ns) (hours_of m ns)
  pub across : (c₁ c₂ : Row) (t₁ t₂ : ℕ) → SmallRate k c₁ t₁ → SmallRate k c₂ t₂ → t₂ * k.size c₁ ≤ exact_size
  pub weights : (c : Row) (t : ℕ) → SmallRate k c t → (u v : ℕ) (ns : List ℕ)
      → Walk m u ns v → length ns ≤ m.ports → k.size (weight m c t ns) ≤ most_weight
  pub layers : (c : Row) (t : ℕ) → SmallRate k c t → (i : ℕ) (d : ℕ → Row)
      → Layer k m (leg_weight m c t) i d → i ≤ m.ports → (v : ℕ) → v < m.ports → k.size (d v) ≤ most_weight
  pub figure : most_weight ≡ 1310588926689411072
  pub exact : most_weight ≤ exact_size
