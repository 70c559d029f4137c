use Rattle.std.proofs.Common.{ℕ, ◌<◌, ◌≤◌, length, get_or}
use Rattle.search.proofs.round.lowest_place.Given as goal

abbrev pub invariant-loop-i : goal.invariant-loop-i
invariant-loop-i l = record { place : l.lowest < length l.numbers; so_far : (j : ℕ) → j < l.i → get_or l.numbers l.lowest 0 ≤ get_or l.numbers j 0 }
