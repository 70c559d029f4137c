-- The number of each refusal, and what a call answers that is refused or not. Assumes nothing.
use lib.Chars.{codes}
use Rattle.std.specs.Prelude.{ℕ, List, ◌++◌, Some, None, Ok, Err, Option, Result}
use Rattle.std.specs.Fmt.{decimal}
use Rattle.limits.specs.declared.refusal.Refusal.{Refusal}
use Rattle.limits.specs.declared.refusal.Refusal.TheVariants.{Port, Cost, Hours, NumberTaken, Number, Length, EntryOver, IdleRound, NoRound, Malformed, NothingStands}

abbrev pub refusal_number : Refusal → ℕ
refusal_number Port = 1
refusal_number Cost = 2
refusal_number Hours = 3
refusal_number NumberTaken = 4
refusal_number Number = 5
refusal_number Length = 6
refusal_number EntryOver = 7
refusal_number IdleRound = 8
refusal_number NoRound = 9
refusal_number Malformed = 10
refusal_number NothingStands = 11

-- how a refusal is told
abbrev pub refusal_text : Refusal → List ℕ
refusal_text r = codes "refused, " ++ decimal (refusal_number r)

-- the first where a call is refused, and else the second
abbrev pub if_refused : {A : Type 0} → Option Refusal → A → A → A
if_refused (Some e) x y = x
if_refused None x y = y

-- the first refusal that applies
abbrev pub or_refusal : Option Refusal → Option Refusal → Option Refusal
or_refusal (Some e) r = Some e
or_refusal None r = r

-- what a call answers: its refusal if it has one, and else the value
abbrev pub answer : {A : Type 0} → Option Refusal → A → Result A Refusal
answer (Some e) v = Err e
answer None v = Ok v
