use Rattle.std.proofs.Common.{◌≡◌, ℕ, sym, subst, arith}
use Rattle.sheet_texts.specs.Columns.{ShowsPlaces}
use Rattle.sheet_texts.proofs.line.read_leg.Goals as goal

pub returns-in_err-cost : goal.returns-in_err-cost
returns-in_err-cost c =
    let at : c.in_ok-hours.at ≡ 21 = omega (arith, c.in_ok-number.ensures.1, c.in_ok-from.ensures.1, c.in_ok-to.ensures.1, c.in_ok-hours.ensures.1) in
    rw c.from_residual-in_err-cost.ensures (λ l h.
    c.in_err-cost.ensures l.leg.cost (subst (λ (i : ℕ). ShowsPlaces c.args.columns.now i 11 c.args.places l.leg.cost) (sym at) h.cost_shown))
