use Rattle.std.proofs.Common.{◌≡◌, ℕ, sym, subst, arith}
use Rattle.sheet_texts.specs.Columns.{ShowsPlaces}
use Rattle.sheet_texts.proofs.line.read_end.Goals as goal

pub returns-in_err-cost : goal.returns-in_err-cost
returns-in_err-cost c =
    let at : c.in_ok-hours.at ≡ 15 = omega (arith, c.in_ok-legs.ensures.1, c.in_ok-hours.ensures.1) in
    rw c.from_residual-in_err-cost.ensures (λ legs hours cost h.
    c.in_err-cost.ensures cost (subst (λ (i : ℕ). ShowsPlaces c.args.columns.now i 16 c.args.places cost) (sym at) h.cost_shown))
