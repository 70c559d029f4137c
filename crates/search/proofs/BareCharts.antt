-- The search on a bare chart, in the words of its contract. Assumes nothing.
use Rattle.std.proofs.Common.{◌≡◌, ℕ, Bool, false, List, Some, None, Option, refl, subst}
use Rattle.rows.specs.Rows.{Row, zero_row}
use Rattle.rows.specs.Kinds.{Kind}
use Rattle.rows.specs.Orders.{by_dollars}
use Rattle.rows.proofs.Order.{clash}
use Rattle.rows.proofs.Lawful.{by_dollars_laws}
use Rattle.charts.specs.Meaning.{Meaning, Within}
use Rattle.rounds.specs.Walks.{ClosedWalk}
use Rattle.rounds.specs.Rates.{Best}
use Rattle.rounds.specs.Bare.{less_one, bare}
use Rattle.rounds.proofs.Bare.{bare_within, bare_closed_on, bare_cheaper, less_one_dollars}
use Rattle.search.specs.Bare.{IdleIf, BareFound, SomeRound}

module _ (k : Kind) (m : Meaning) (W : Within k m) (idle : Bool) where
  pub bare_limits : Within by_dollars (bare idle less_one m)
  bare_limits = bare_within idle less_one m k by_dollars W less_one_dollars.1

  -- nothing in one hour
  pub bare_none : (zero : Row) → zero ≡ zero_row → Best by_dollars (bare idle less_one m) zero 1 → (ns : List ℕ) → ClosedWalk m ns → IdleIf idle m ns → ⊥
  bare_none zero e best ns o z =
      let on = bare_closed_on idle less_one m ns o z in
      clash (bare_cheaper idle less_one m by_dollars by_dollars_laws less_one_dollars.0 ns on) (subst (λ (y : Row). Best by_dollars (bare idle less_one m) y 1) e best ns on)

pub some_round : (m : Meaning) (buffer : List ℕ) (r : Option ℕ) → BareFound m false buffer r → SomeRound m buffer r
some_round m buffer (Some n) f = (f.0, f.1)
some_round m buffer None f = λ ns o. f ns o (λ e. clash e refl)
