-- Walks back through layers, along the legs that made ports lower, to the first port that comes again. Assumes nothing.
use Rattle.std.specs.Prelude.{◌≡◌, ℕ, zero, suc, ◌-◌, ◌<◌, ◌≤◌, ◌≢◌, List, [], ◌∷◌}
use Rattle.charts.specs.Meaning.{Meaning}
use Rattle.rounds.specs.Legs.{leaves}

-- by i v is 0, or the number and 1 of the leg that made port v lower in layer i + 1
module _ (m : Meaning) (by : ℕ → ℕ → ℕ) where
  -- the port to which c legs lead back from port x in layer j
  unfoldable pub port_back : ℕ → ℕ → ℕ → ℕ
  port_back zero j x = x
  port_back (suc c) j x = leaves m (by (j - suc c) (port_back c j x) - 1)

  -- those legs
  unfoldable pub legs_back : ℕ → ℕ → ℕ → List ℕ
  legs_back zero j x = []
  legs_back (suc c) j x = (by (j - suc c) (port_back c j x) - 1) ∷ legs_back c j x

  -- port x was made lower by layer j
  abbrev pub LoweredIn : ℕ → ℕ → Type 0
  LoweredIn j x = (x < m.ports) × (0 < j) × (0 < by (j - 1) x)

  -- c legs back from port x in layer j lead to x again, and to no port twice before
  pub record FirstRepeat (c j x : ℕ) : Type 0 where
    pub some : 0 < c
    pub deep : c ≤ j
    pub lowered : LoweredIn j x
    pub again : port_back c j x ≡ x
    pub others : (a b : ℕ) → a < b → b < c → port_back a j x ≢ port_back b j x
