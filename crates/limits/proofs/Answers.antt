-- What follows from the answer of a call that may be refused. Assumes nothing.
use Rattle.std.proofs.Common.{◌≡◌, ℕ, Some, None, Ok, Err, Option, refl, arith}
use Rattle.limits.specs.Refusals.{if_refused, answer}
use Rattle.limits.specs.declared.refusal.Refusal.{Refusal}

-- an answer is a refusal where the call is refused
pub refused_by_err : {A : Type 0} (r : Option Refusal) (v : A) (e : Refusal) → answer r v ≡ Err e → r ≡ Some e
refused_by_err (Some d) v e h = cc
refused_by_err None v e h = let z : ◌≡◌ {A = ℕ} 0 1 = cc in absurd (omega arith)

-- and a value where it is not
pub taken_by_ok : {A : Type 0} (r : Option Refusal) (v w : A) → answer r v ≡ Ok w → r ≡ None
taken_by_ok (Some d) v w h = let z : ◌≡◌ {A = ℕ} 0 1 = cc in absurd (omega arith)
taken_by_ok None v w h = refl
