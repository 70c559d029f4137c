use Rattle.std.proofs.Common.{sym, ◌∙◌}
use Rattle.std.proofs.lemmas.Bool.{false≢true}
use Rattle.limits.specs.declared.refusal.Refusal.TheVariants.{Malformed}
use Rattle.sheets.specs.Places.{row_of}
use Rattle.sheet_reader.proofs.Answering.{missing_passed_on}
use Rattle.sheet_reader.proofs.EndLines.{end_malformed, sums_differ, end_taken}
use Rattle.sheet_reader.proofs.reader.taking.check_end.Goals as goal

pub returns-in_err-end : goal.returns-in_err-end
returns-in_err-end g c m =
    missing_passed_on _ _ c.from_residual.result c.read_end.result _ Malformed c.from_residual.ensures.1 c.in_err-end.ensures.ok_part c.in_err-end.ensures.value
    (end_malformed g.K.CostKind.kind m c.args.columns.now c.args.tally.now g.K.CostKind.lawful.few_places (rw (c.in_err-end.ensures.ok_part, c.place_count.ensures) at c.read_end.ensures))

pub returns-then-has_sums : goal.returns-then-has_sums
returns-then-has_sums g c m =
    let k = g.K.CostKind.kind in
    let end' = c.in_ok-end.«end» in
    let read = rw (c.in_ok-end.ensures.ok_part, c.place_count.ensures) at c.read_end.ensures in
    end_taken k m c.args.columns.now c.args.tally.now end'.legs end'.hours (row_of end'.cost) read.0 (c.has_sums.ensures.0 c.if-has_sums.true)

pub returns-else-has_sums : goal.returns-else-has_sums
returns-else-has_sums g c m =
    let k = g.K.CostKind.kind in
    let end' = c.in_ok-end.«end» in
    let read = rw (c.in_ok-end.ensures.ok_part, c.place_count.ensures) at c.read_end.ensures in
    sums_differ k m c.args.columns.now c.args.tally.now g.K.CostKind.lawful.few_places end'.legs end'.hours (row_of end'.cost) read.0 read.1
    (λ same. false≢true (sym c.if-has_sums.false ∙ c.has_sums.ensures.1 same))
