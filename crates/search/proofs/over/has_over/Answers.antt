use Rattle.std.proofs.Common.{◌<◌, ◌≤◌, length, refl, ap, ⊎_elim, arith}
use lib.ListN.{get_or-eq_default}
use Rattle.std.proofs.lemmas.Bool.{cases_lt}
use Rattle.rows.proofs.Order.{clash}
use Rattle.charts.specs.Meaning.{blank}
use Rattle.search.specs.Over.{is_over}
use Rattle.search.proofs.over.has_over.Goals as goal

pub returns : goal.returns
returns g c =
    let entries = (g.C.Chart.meaning c.args.chart.now).entries in
    record {
      some = λ e. clash e refl;
      none = λ e o. ⊎_elim
          (λ (h : o.0 < length entries). clash (ap is_over o.1) (c.loop-n.invariant o.0 (omega (arith, c.loop-n-test.false, c.count-n-end.ensures))))
          (λ (h : length entries ≤ o.0). clash (ap is_over o.1) (ap is_over (get_or-eq_default entries blank h)))
          (cases_lt o.0 (length entries));
    }
