use Rattle.std.proofs.Common.{◌≡◌, min, Some, None, sym}
use Rattle.limits.specs.Numbers.{most_ports}
use Rattle.limits.specs.declared.refusal.Refusal.TheVariants.{Malformed}
use Rattle.charts.specs.Limits.{port_count_refusal}
use Rattle.sheet_reader.specs.Reading.{limits_of}
use Rattle.sheet_reader.proofs.Answering.{none_refused, refused_with, passed_on, missing_passed_on}
use Rattle.sheet_reader.proofs.HeadLines.{head_malformed, head_refused, head_taken}
use Rattle.sheet_reader.proofs.reader.taking.take_head.Goals as goal

pub returns-in_err-ports : goal.returns-in_err-ports
returns-in_err-ports g c =
    missing_passed_on _ _ c.from_residual.result c.read_head.result _ Malformed c.from_residual.ensures.1 c.in_err-ports.ensures.ok_part c.in_err-ports.ensures.value
    (head_malformed g.K.CostKind.kind (limits_of c.args.bounds) c.args.columns.now g.K.CostKind.lawful.few_places (rw (c.in_err-ports.ensures.ok_part, c.place_count.ensures) at c.read_head.ensures))

pub returns-in_err-check_port_count : goal.returns-in_err-check_port_count
returns-in_err-check_port_count g c =
    let read = rw (c.in_ok-ports.ensures.ok_part, c.place_count.ensures) at c.read_head.ensures in
    let why : port_count_refusal (min c.args.bounds.ports most_ports) c.in_ok-ports.ports ≡ Some c.in_err-check_port_count.field-0.0 = rw (sym c.min.ensures) (refused_with _ _ _ c.in_err-check_port_count.ensures) in
    passed_on _ _ c.from_residual-in_err-check_port_count.result _ c.from_residual-in_err-check_port_count.ensures.1
    (head_refused g.K.CostKind.kind (limits_of c.args.bounds) c.args.columns.now c.in_ok-ports.ports _ read why)

pub returns : goal.returns
returns g c =
    let k = g.K.CostKind.kind in
    let p = c.in_ok-ports.ports in
    let read = rw (c.in_ok-ports.ensures.ok_part, c.place_count.ensures) at c.read_head.ensures in
    let none : port_count_refusal (min c.args.bounds.ports most_ports) p ≡ None = rw (sym c.min.ensures) (none_refused _ _ _ c.in_ok-check_port_count.ensures) in
    head_taken k (limits_of c.args.bounds) c.args.columns.now _ p read none c.«open».ensures
