use Rattle.std.proofs.Common.{◌*◌, ap, ◌∙◌, arith}
use Rattle.search.specs.Area.{number_places}
use Rattle.search.proofs.Parts.{two_rows, front_rest}
use Rattle.search.proofs.first.first_round.Goals as goal

pub returns-in-Some-clause-numbers : goal.returns-in-Some-clause-numbers
returns-in-Some-clause-numbers g c =
    let p = c.ports-ports.result in
    let e = ap number_places c.ports-ports.ensures.value in
    let rows = two_rows p (omega (arith, c.ports-ports.ensures.value, c.ports-ports.ensures.within.some_port)) in
    front_rest (2 * p) c.args.numbers.now c.picked_round.new.numbers (omega (arith, c.requires.numbers)) c.picked_round.auto.numbers _ (omega arith)

pub returns-in-None-clause-numbers : goal.returns-in-None-clause-numbers
returns-in-None-clause-numbers g c =
    let p = c.ports-ports.result in
    let e = ap number_places c.ports-ports.ensures.value in
    let rows = two_rows p (omega (arith, c.ports-ports.ensures.value, c.ports-ports.ensures.within.some_port)) in
    c.any_round.ensures.numbers ∙ front_rest (2 * p) c.args.numbers.now c.picked_round.new.numbers (omega (arith, c.requires.numbers)) c.picked_round.auto.numbers _ (omega arith)
