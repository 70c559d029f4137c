-- Walks and closed walks on a chart, as lists of leg numbers. Assumes nothing.
use Rattle.std.specs.Prelude.{◌≡◌, ℕ, ◌<◌, true, List, [], ◌∷◌, ◌++◌, length}
use Rattle.charts.specs.Meaning.{Meaning}
use Rattle.rounds.specs.Legs.{there, leaves, reaches}

-- the legs lead from port u to port v, each leaving the port that the one before it reaches
abbrev pub Walk : Meaning → ℕ → List ℕ → ℕ → Type 0
Walk m u [] v = u ≡ v
Walk m u (n ∷ ns) v = (there m n ≡ true) × (leaves m n ≡ u) × Walk m (reaches m n) ns v

-- a walk that is not empty and ends where it began
pub record ClosedWalk (m : Meaning) (ns : List ℕ) : Type 0 where
  pub port : ℕ
  pub some : 0 < length ns
  pub back : Walk m port ns port

-- a walk that passes a port twice: up to that port, from it back to it, and on
pub record Repeat (m : Meaning) (u : ℕ) (ns : List ℕ) (v : ℕ) : Type 0 where
  pub port : ℕ
  pub before : List ℕ
  pub part : List ℕ
  pub after : List ℕ
  pub whole : ns ≡ before ++ (part ++ after)
  pub come : Walk m u before port
  pub some : 0 < length part
  pub again : Walk m port part port
  pub go_on : Walk m port after v
