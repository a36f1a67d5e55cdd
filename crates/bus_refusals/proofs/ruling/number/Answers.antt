-- A number of a byte, within the range or over it, and none.
use Rattle.std.proofs.Common.{arith}
use Rattle.bus_sensor.proofs.temperature.Signed.{back}
use Rattle.bus_refusals.proofs.ruling.Laws.{number-in, number-over, number-none}
use Rattle.bus_refusals.proofs.ruling.number.Goals as goal

pub returns-in-Ok : goal.returns-in-Ok
returns-in-Ok c =
    let v = c.args.v in
    let e = rw (back v (omega arith)) at c.in-Ok.ensures in
    rw (number-in c.args.most v e.0 (omega arith), e.1)

pub returns-in_default : goal.returns-in_default
returns-in_default c =
    let v = c.args.v in
    let e = rw (back v (omega arith)) at c.in-Ok.ensures in
    rw (number-over c.args.most v e.0 (omega arith))

pub returns-in_default-2 : goal.returns-in_default-2
returns-in_default-2 c =
    let v = c.args.v in
    let e = rw (back v (omega arith)) at c.in_default.ensures in
    rw (number-none c.args.most v (omega arith) e)
