-- The mark of a port: the least weight of a walk that ends there, from any port, the empty walk counted. Assumes nothing.
use Rattle.std.specs.Prelude.{◌≡◌, ℕ, false, List}
use Rattle.rows.specs.Rows.{Row}
use Rattle.rows.specs.Kinds.{Kind}
use Rattle.charts.specs.Meaning.{Meaning}
use Rattle.rounds.specs.Walks.{Walk}
use Rattle.rounds.specs.Rates.{sum_of, leg_weight}

-- some walk that ends at port v weighs x, where each leg weighs w
pub record WeighedWalk (m : Meaning) (w : ℕ → Row) (v : ℕ) (x : Row) : Type 0 where
  pub start : ℕ
  pub legs : List ℕ
  pub leads : Walk m start legs v
  pub weighs : sum_of w legs ≡ x

-- some walk that ends at port v weighs x, and none weighs less
pub record LeastWeight (k : Kind) (m : Meaning) (w : ℕ → Row) (v : ℕ) (x : Row) : Type 0 where
  pub some : WeighedWalk m w v x
  pub least : (u : ℕ) (ns : List ℕ) → Walk m u ns v → k.below (sum_of w ns) x ≡ false

-- x is the mark of port v against cost c in t hours
abbrev pub Mark : Kind → Meaning → Row → ℕ → ℕ → Row → Type 0
Mark k m c t v x = LeastWeight k m (leg_weight m c t) v x
