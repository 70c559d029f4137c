-- What an answer tells of the refusal that it was made of. Assumes nothing.
use Rattle.std.proofs.Common.{◌≡◌, Some, None, Option, Ok, Err, Result, refl, MatchResult, IsErrAnd}
use Rattle.std.specs.Option.{ok_or}
use Rattle.std.proofs.lemmas.Result.{err_from_is_err_and}
use Rattle.limits.specs.Refusals.{answer}
use Rattle.limits.specs.declared.refusal.Refusal.{Refusal}

pub none_refused : {A : Type 0} (r : Option Refusal) (v x : A) → Ok x ≡ answer r v → r ≡ None
none_refused (Some e) v x is = cc
none_refused None v x is = refl

pub refused_with : {A : Type 0} (r : Option Refusal) (v : A) (e : Refusal) → Err e ≡ answer r v → r ≡ Some e
refused_with (Some d) v e is = cc
refused_with None v e is = cc

-- what holds of a refusal holds of the answer that passes it on
pub passed_on : {A : Type 0} (P : A → Type 0) (Q : Refusal → Type 0) (r : Result A Refusal) (e : Refusal) → IsErrAnd r (λ x. x ≡ e) → Q e → MatchResult r P Q
passed_on P Q r e is q = let p = err_from_is_err_and r is in rw (p.1, p.2) q

-- and so where the refusal stands for a value that is not there
pub missing_passed_on : {A B : Type 0} (P : A → Type 0) (Q : Refusal → Type 0) (r : Result A Refusal) (o : Option B) (d e : Refusal) → IsErrAnd r (λ x. x ≡ d)
    → o ≡ None → Err d ≡ ok_or o e → Q e → MatchResult r P Q
missing_passed_on {B = B} P Q r o d e is none value q =
    let given : ◌≡◌ {A = Result B Refusal} (Err d) (Err e) = rw none at value in
    let same : d ≡ e = cc in
    passed_on P Q r d is (rw same q)
