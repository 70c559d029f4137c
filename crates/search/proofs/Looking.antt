-- The cheaper of two that were found. Assumes nothing.
use Rattle.std.proofs.Common.{◌≡◌, ℕ, ◌+◌, ◌-◌, ◌<◌, ◌⊎◌, List, Some, None, Option, sym, subst, inl, inr, arith}
use Rattle.std.proofs.lemmas.Bool.{cases_eq}
use Rattle.rows.specs.Rows.{Row}
use Rattle.charts.specs.Meaning.{Meaning}
use Rattle.rounds.proofs.WalksBack.{back_zero}
use Rattle.search.specs.declared.look.Found.{Found}
use Rattle.search.specs.Predecessors.{pred_at}
use Rattle.search.specs.Back.{OnTheWay}
use Rattle.search.specs.Look.{Known, KnownIf, FoundFrom, LookedFrom}

-- a port without a predecessor leads nowhere
pub no_leg : (m : Meaning) (width : ℕ) (table : List ℕ) (top x : ℕ) → 0 < top → pred_at width table (top - 1) x ≡ 0 → OnTheWay m width table top x top → top < m.ports
no_leg m width table top x some none w =
    let o : 0 < pred_at width table (top - 1) x = subst (λ u. 0 < pred_at width table (top - 1) u) (back_zero m (pred_at width table) top x) (w 0 some).1 in
    absurd (omega arith)

module _ {K : Type 0} (row : K → Row) (m : Meaning) (width : ℕ) (table : List ℕ) (top : ℕ) where
  pub known_more : (best : Option (Found K)) (new r : Found K) → KnownIf row m width table top best → Known row m width table top new → (r ≡ new) ⊎ (best ≡ Some r) → Known row m width table top r
  known_more best new r h n (inl e) = subst (Known row m width table top) (sym e) n
  known_more best new r h n (inr e) = subst (KnownIf row m width table top) e h

  pub looked_known : (v : ℕ) (best : Option (Found K)) → LookedFrom row m width table top v best → KnownIf row m width table top best
  looked_known v (Some f) h = h
  looked_known v None h = tt

  -- nothing was found from one port more
  pub looked_none : (v : ℕ) (best : Option (Found K)) → LookedFrom row m width table top v best → FoundFrom row m width table top v None → LookedFrom row m width table top (v + 1) best
  looked_none v (Some f) h n = h
  looked_none v None h n = λ x b w. go x b w (cases_eq x v)
    where
      go : (x : ℕ) → x < v + 1 → OnTheWay m width table top x top → (x ≡ v) ⊎ (x ≡ v → ⊥) → top < m.ports
      go x b w (inl e) = n (subst (λ u. OnTheWay m width table top u top) e w)
      go x b w (inr e) = h x (omega arith) w
