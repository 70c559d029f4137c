use Rattle.std.proofs.Common.{sym, ◌∙◌}
use Rattle.std.proofs.lemmas.List.Folds.{list_all-map}
use Rattle.rounds.specs.Standing.{still_joins}
use Rattle.pricing.specs.Kept.{kept_joined}
use Rattle.pricing.proofs.kept.still_there.Goals as goal

pub returns : goal.returns
returns g c = c.all_still_join.ensures ∙ sym (list_all-map (still_joins (g.C.Chart.meaning c.args.chart.now)) kept_joined c.args.legs.now)
