-- The legs of a kept round, each with the two ports that it joined, and whether they are still there on a chart. Assumes nothing.
use Rattle.std.specs.Prelude.{ℕ, Bool, true, ◌&&◌, List, [], ◌∷◌, map, ◌==◌}
use Rattle.std.specs.List.{list_all}
use Rattle.charts.specs.Meaning.{Meaning}
use Rattle.rounds.specs.Legs.{there, leaves, reaches}

-- a leg by its number, with the ports that it joined when the round was taken
pub record Joined : Type 0 where
  pub number : ℕ
  pub from : ℕ
  pub to : ℕ

-- the numbers of the kept legs
abbrev pub numbers : List Joined → List ℕ
numbers js = map (λ (j : Joined). j.number) js

-- the leg of a number as it is kept
abbrev pub joined : Meaning → ℕ → Joined
joined m n = record { number = n; from = leaves m n; to = reaches m n }

-- the legs of a round as they are kept
abbrev pub kept : Meaning → List ℕ → List Joined
kept m ns = map (joined m) ns

-- the number is that of a leg, and it joins the same ports as before
abbrev pub still_joins : Meaning → Joined → Bool
still_joins m j = there m j.number && (leaves m j.number == j.from && reaches m j.number == j.to)

-- every leg still joins the same ports
abbrev pub still_there : Meaning → List Joined → Bool
still_there m = list_all (still_joins m)
