use Rattle.std.proofs.Common.{length, take, ap, ◌∙◌, arith}
use Rattle.std.proofs.lemmas.List.{take_min}
use Rattle.limits.specs.Numbers.{most_legs}
use Rattle.charts.proofs.table.read_part.Goals as goal

pub returns : goal.returns
returns g c = ap (λ k. take k c.args.table.now) (omega (arith, c.min.ensures)) ∙ take_min most_legs c.args.table.now
