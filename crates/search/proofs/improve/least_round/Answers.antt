use Rattle.std.proofs.Common.{◌≡◌, ◌-◌, ◌*◌, ◌≤◌, length, ◌∙◌, arith}
use borrow.Rule.Slice.PartMut.{post_of}
use Rattle.search.proofs.Parts.{front_length, front_rest, improved_front}
use Rattle.search.proofs.Improving.{small, falls, improves, improved}
use Rattle.search.proofs.improve.least_round.Goals as goal

pub find_cheaper_in-requires-clause-rate : goal.find_cheaper_in-requires-clause-rate
find_cheaper_in-requires-clause-rate g c =
    let k = g.C.Cost.CostKind in
    small k.lawful c.ports-ports.ensures.within c.requires.busy c.requires.start c.loop-held.round c.loop-held.found c.loop-held.invariant

pub loop-held-smaller : goal.loop-held-smaller
loop-held-smaller g c =
    let k = g.C.Cost.CostKind in
    falls k.lawful c.ports-ports.ensures.within c.requires.busy c.requires.start c.loop-held.round c.loop-held.found c.loop-held.invariant _ c.in-Some.held c.in-Some.ensures

pub loop-held-preserved : goal.loop-held-preserved
loop-held-preserved g c =
    let k = g.C.Cost.CostKind in
    improves k.lawful c.ports-ports.ensures.within c.requires.busy c.requires.start c.loop-held.round c.loop-held.found c.loop-held.invariant _ c.in-Some.held c.in-Some.ensures

pub returns-clause-improved : goal.returns-clause-improved
returns-clause-improved g c =
    let k = g.C.Cost.CostKind in
    let m = g.C.Chart.meaning c.args.chart.now in
    let p = c.ports-ports.result in
    let p-is : p ≡ m.ports = c.ports-ports.ensures.value in
    let costs = c.args.costs.now in
    let front = c.find_cheaper_in.new.costs in
    let suffice : 2 * p ≤ length costs = omega (arith, c.requires.area.costs_suffice) in
    let long = front_length (2 * p) costs front suffice (c.find_cheaper_in.auto.costs ∙ c.loop-held.auto.layers) in
    improved_front k.kind k.row m c.args.start c.args.round.now front (post_of 0 (2 * p - 0) costs) _ (omega arith) _
    (improved k.lawful c.ports-ports.ensures.within c.requires.busy c.requires.start c.loop-held.round c.loop-held.found c.loop-held.invariant front _ c.in_default.ensures)

pub returns-clause-costs : goal.returns-clause-costs
returns-clause-costs g c =
    let p = c.ports-ports.result in
    let p-is = c.ports-ports.ensures.value in
    front_rest (2 * p) c.args.costs.now c.find_cheaper_in.new.costs (omega (arith, c.requires.area.costs_suffice)) (c.find_cheaper_in.auto.costs ∙ c.loop-held.auto.layers) _ (omega arith)
