-- How many lists of leg numbers are cheaper than a rate: what falls as a cheaper round takes the place of another. Assumes nothing.
use Rattle.std.specs.Prelude.{ℕ, zero, suc, ◌+◌, Bool, cond, ◌&&◌, List, [], ◌∷◌, ◌++◌, map, length, nat_lt}
use Rattle.rows.specs.Rows.{Row}
use Rattle.rows.specs.Kinds.{Kind}
use Rattle.charts.specs.Meaning.{Meaning}
use Rattle.rounds.specs.Rates.{hours_of, walk_cheaper}

-- how many of a list pass a test
abbrev pub how_many : {A : Type 0} → (A → Bool) → List A → ℕ
how_many p [] = 0
how_many p (x ∷ xs) = cond (p x) 1 0 + how_many p xs

-- each list with each number below n in front
unfoldable pub prefixed : ℕ → List (List ℕ) → List (List ℕ)
prefixed zero ls = []
prefixed (suc n) ls = map (◌∷◌ n) ls ++ prefixed n ls

-- the lists of at most i numbers, each below n
unfoldable pub lists_of : ℕ → ℕ → List (List ℕ)
lists_of n zero = [] ∷ []
lists_of n (suc i) = [] ∷ prefixed n (lists_of n i)

-- it takes some hours, and is cheaper than cost c in t hours
abbrev pub counts : Kind → Meaning → Row → ℕ → List ℕ → Bool
counts k m c t ns = nat_lt 0 (hours_of m ns) && walk_cheaper k m ns c t

-- how many lists of at most as many leg numbers as there are ports are cheaper than cost c in t hours
unfoldable pub cheaper_count : Kind → Meaning → Row → ℕ → ℕ
cheaper_count k m c t = how_many (counts k m c t) (lists_of (length m.entries) m.ports)
