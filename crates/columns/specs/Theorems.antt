-- What holds of every column. Assumes nothing.
use Rattle.std.specs.Prelude.{◌≡◌, ℕ, ◌+◌, ◌≤◌, List, length, ℤ}
use Rattle.columns.specs.Columns.{widest, column, Fits, Shows}
use Rattle.columns.specs.Put.{put}

-- a column shows at most one number
abbrev pub OneNumber : Type 0
OneNumber = (w : ℕ) (y z : ℤ) → column w y ≡ column w z → y ≡ z

-- the column of a number that fits has just its width
abbrev pub ExactWidth : Type 0
ExactWidth = (w : ℕ) (z : ℤ) → Fits w z → length (column w z) ≡ w

-- a number that is put is the one that is read there
abbrev pub PutIsShown : Type 0
PutIsShown = (out : List ℕ) (at w : ℕ) (z : ℤ) → w ≤ widest → at + w ≤ length out → Fits w z → Shows (put out at (column w z)) at w z
