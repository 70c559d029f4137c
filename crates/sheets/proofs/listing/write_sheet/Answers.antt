use Rattle.std.proofs.Common.{ℕ, ◌+◌, ◌<◌, List, [], length, take, drop, Ok, sym, subst, arith}
use Rattle.std.proofs.lemmas.Result.{err_from_is_err_and}
use Rattle.sheets.specs.Form.{Numbered, Sheet}
use Rattle.sheets.specs.Begun.{begun}
use Rattle.sheets.specs.Listing.{listed, PutsSheet}
use Rattle.sheets.proofs.Whole.{listed_more, listed_rest, listed_all, listed_none}
use Rattle.sheets.proofs.Progress.{Progress, progress_begun, progress_taken, not_begun, not_taken, all_put, none_short}
use Rattle.sheets.proofs.listing.write_sheet.Goals as goal

pub returns-in_err-sheet : goal.returns-in_err-sheet
returns-in_err-sheet g c =
    let legs = (listed g.K.CostKind.row c.args.form c.args.ports c.args.legs.now).legs in
    let p = err_from_is_err_and c.from_residual.result c.from_residual.ensures.1 in
    rw (p.1, p.2) (not_begun g.K.CostKind.kind legs c.in_err-sheet.ensures)

pub loop-leg-preserved : goal.loop-leg-preserved
loop-leg-preserved g c = λ form out p.
    let k = g.K.CostKind.kind in
    let row = g.K.CostKind.row in
    let legs = c.args.legs.now in
    let i = c.loop-leg.leg-index in
    let l = c.leg-item.result in
    let sheet = listed row form c.args.ports in
    let below : i < length legs = omega arith in
    let left = subst (λ (rest : List Numbered). Progress k (sheet legs) (sheet (take i legs)) rest out (begun c.loop-leg.sheet) c.loop-leg.out)
    (listed_rest row form c.args.ports legs i l below c.leg-item.is) (c.loop-leg.invariant form out p) in
    subst (λ (done : Sheet). Progress k (sheet legs) done (sheet (drop (i + 1) legs)).legs out (begun c.leg.new.self) c.leg.new.out)
    (listed_more row form c.args.ports legs i l below c.leg-item.is) (progress_taken k c.in_default.ensures left (omega arith))

pub returns-in-Err : goal.returns-in-Err
returns-in-Err g c =
    let k = g.K.CostKind.kind in
    let row = g.K.CostKind.row in
    let legs = c.args.legs.now in
    let i = c.loop-leg.leg-index in
    let out = c.args.out.now in
    let sheet = listed row c.args.form c.args.ports in
    let first = progress_begun k (sheet legs).legs c.in_ok-sheet.ensures (omega arith) in
    let left = subst (λ (rest : List Numbered). Progress k (sheet legs) (sheet (take i legs)) rest out (begun c.loop-leg.sheet) c.loop-leg.out)
    (listed_rest row c.args.form c.args.ports legs i c.leg-item.result (omega arith) c.leg-item.is) (c.loop-leg.invariant c.args.form out first) in
    not_taken k c.strike.new.out c.in-Err.ensures left c.strike.ensures

pub returns-in-Ok : goal.returns-in-Ok
returns-in-Ok g c =
    let k = g.K.CostKind.kind in
    let row = g.K.CostKind.row in
    let legs = c.args.legs.now in
    let i = c.loop-leg.leg-index in
    let out = c.args.out.now in
    let sheet = listed row c.args.form c.args.ports in
    let first = progress_begun k (sheet legs).legs c.in_ok-sheet.ensures (omega arith) in
    let none = subst (λ (rest : List Numbered). Progress k (sheet legs) (sheet (take i legs)) rest out (begun c.loop-leg.sheet) c.loop-leg.out)
    (listed_none row c.args.form c.args.ports legs i (omega arith)) (c.loop-leg.invariant c.args.form out first) in
    let all = subst (λ (done : Sheet). Progress k (sheet legs) done [] out (begun c.loop-leg.sheet) c.loop-leg.out)
    (listed_all row c.args.form c.args.ports legs i (omega arith)) none in
    subst (λ (m : ℕ). PutsSheet k (sheet legs) out (Ok m) c.close.new.out) (sym c.length.ensures) (all_put k c.in-Ok.ensures all (omega arith))

pub returns-in-Err-close : goal.returns-in-Err-close
returns-in-Err-close g c =
    let k = g.K.CostKind.kind in
    let legs = (listed g.K.CostKind.row c.args.form c.args.ports c.args.legs.now).legs in
    none_short k c.in-Err-close.ensures (c.loop-leg.invariant c.args.form c.args.out.now (progress_begun k legs c.in_ok-sheet.ensures (omega arith)))
