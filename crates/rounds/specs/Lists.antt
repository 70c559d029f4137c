-- Lists of numbers: which stand in them, whether each stands once, and which is the lowest. Assumes nothing.
use Rattle.std.specs.Prelude.{◌≡◌, ℕ, ◌≤◌, Bool, true, false, not, ◌&&◌, ◌||◌, List, [], ◌∷◌, ◌++◌, ◌==◌}

-- the number stands in the list
abbrev pub stands_in : ℕ → List ℕ → Bool
stands_in x [] = false
stands_in x (y ∷ ys) = x == y || stands_in x ys

-- no number stands twice
abbrev pub each_once : List ℕ → Bool
each_once [] = true
each_once (x ∷ xs) = not (stands_in x xs) && each_once xs

-- every number of the second list stands in the first
abbrev pub DrawnFrom : List ℕ → List ℕ → Type 0
DrawnFrom ns [] = Unit {0}
DrawnFrom ns (x ∷ xs) = (stands_in x ns ≡ true) × DrawnFrom ns xs

-- every number of the list is at least low
abbrev pub AtLeast : ℕ → List ℕ → Type 0
AtLeast low [] = Unit {0}
AtLeast low (n ∷ ns) = (low ≤ n) × AtLeast low ns

-- the lowest number stands first
abbrev pub LowestFirst : List ℕ → Type 0
LowestFirst [] = Unit {0}
LowestFirst (n ∷ ns) = AtLeast n ns

-- the same list turned, so that its lowest number stands first
pub record Turned (old new : List ℕ) : Type 0 where
  pub front : List ℕ
  pub low : ℕ
  pub after : List ℕ
  pub was : old ≡ front ++ (low ∷ after)
  pub is : new ≡ (low ∷ after) ++ front
  pub none_in_front : AtLeast low front
  pub none_after : AtLeast low after
