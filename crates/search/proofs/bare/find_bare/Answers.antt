use Rattle.std.proofs.Common.{sym, subst}
use Rattle.rows.proofs.Places.{one_zero}
use Rattle.rounds.specs.Bare.{less_one}
use Rattle.rounds.proofs.Bare.{bare_round_of}
use Rattle.search.specs.Bare.{BareFound}
use Rattle.search.proofs.BareCharts.{bare_none}
use Rattle.search.proofs.bare.find_bare.Goals as goal

pub returns-in_err-held-clause-found : goal.returns-in_err-held-clause-found
returns-in_err-held-clause-found g c =
    let m = g.C.Chart.meaning c.args.chart.now in
    subst (BareFound m c.args.idle c.find_cheaper_in.new.round) (sym c.from_residual.ensures) (bare_none g.C.Cost.CostKind.kind m c.ports-ports.ensures.within c.args.idle _ one_zero c.in_err-held.ensures.1.best)

pub returns-clause-found : goal.returns-clause-found
returns-clause-found g c =
    let h = c.in_ok-held.ensures.holds in
    let r = bare_round_of c.args.idle less_one (g.C.Chart.meaning c.args.chart.now) _ h.round in
    (h.few, r.0, r.1)
