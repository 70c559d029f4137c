-- Bytes written over others from a place on. Assumes nothing.
use Rattle.std.specs.Prelude.{ℕ, ◌+◌, List, ◌++◌, length, take, drop}

unfoldable pub put : List ℕ → ℕ → List ℕ → List ℕ
put out at bytes = take at out ++ (bytes ++ drop (at + length bytes) out)
