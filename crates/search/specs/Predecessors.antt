-- The table of predecessors. Assumes nothing.
use Rattle.std.specs.Prelude.{◌≡◌, ℕ, ◌+◌, ◌-◌, ◌*◌, ◌<◌, ◌≤◌, true, List, length, slice_index}
use Rattle.rows.specs.Kinds.{Kind}
use Rattle.charts.specs.Meaning.{Meaning, Within}
use Rattle.rounds.specs.Legs.{there, reaches}

-- row i of a table whose rows stand so many places apart, at v: 0, or the number and 1 of the leg by which port v is reached
unfoldable pub pred_at : ℕ → List ℕ → ℕ → ℕ → ℕ
pred_at width table i v = slice_index table (i * width + v)

-- so many rows stand in a table, no more than there are ports, and a leg in them is there and reaches the port at whose place it stands
pub record Led (k : Kind) (m : Meaning) (width : ℕ) (table : List ℕ) (layers : ℕ) : Type 0 where
  pub within : Within k m
  pub few : layers ≤ m.ports
  pub stands : (i v : ℕ) → i < layers → v < m.ports → i * width + v < length table
  pub legs : (i v : ℕ) → i < layers → v < m.ports → 0 < pred_at width table i v → (there m (pred_at width table i v - 1) ≡ true) × (reaches m (pred_at width table i v - 1) ≡ v)
