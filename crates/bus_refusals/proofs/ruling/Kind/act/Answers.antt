-- Kind by kind: the value refused, or what it does.
use Rattle.std.proofs.Common.{arith}
use Rattle.bus_sensor.proofs.temperature.Signed.{back}
use Rattle.rules.specs.Events.{act_of}
use Rattle.rules.specs.Refusals.{wrong_value}
use Rattle.bus_refusals.proofs.ruling.Laws.{err-by, ok-by}
use Rattle.bus_refusals.proofs.ruling.Kind.act.Goals as goal

pub returns-in-Start : goal.returns-in-Start
unfolding wrong_value act_of
returns-in-Start c = rw c.in-Start.is

pub returns-in-Stop : goal.returns-in-Stop
unfolding wrong_value act_of
returns-in-Stop c = rw c.in-Stop.is

pub returns-in-Timeout : goal.returns-in-Timeout
unfolding wrong_value act_of
returns-in-Timeout c = rw c.in-Timeout.is

pub returns-in-Tick : goal.returns-in-Tick
unfolding wrong_value act_of
returns-in-Tick c = rw c.in-Tick.is

pub returns-in_err-number-in-Byte : goal.returns-in_err-number-in-Byte
unfolding wrong_value act_of
returns-in_err-number-in-Byte c =
    let is = rw (back c.args.v (omega arith)) at c.number.ensures in
    rw c.in-Byte.is (err-by _ _ _ is _ _ _ c.in_err-number-in-Byte.was c.from_residual.ensures.1)

pub returns-in_ok-number-in-Byte : goal.returns-in_ok-number-in-Byte
unfolding wrong_value act_of
returns-in_ok-number-in-Byte c =
    let is = rw (back c.args.v (omega arith)) at c.number.ensures in
    let ok = ok-by _ _ _ is _ c.in_ok-number-in-Byte.was in
    rw (c.in-Byte.is, ok.0, ok.1)

pub returns-in_err-switch-in-Read : goal.returns-in_err-switch-in-Read
unfolding wrong_value act_of
returns-in_err-switch-in-Read c =
    let is = rw (back c.args.v (omega arith)) at c.switch.ensures in
    rw c.in-Read.is (err-by _ _ _ is _ _ _ c.in_err-switch-in-Read.was c.from_residual-in_err-switch-in-Read.ensures.1)

pub returns-in_ok-switch-in-Read : goal.returns-in_ok-switch-in-Read
unfolding wrong_value act_of
returns-in_ok-switch-in-Read c =
    let is = rw (back c.args.v (omega arith)) at c.switch.ensures in
    let ok = ok-by _ _ _ is _ c.in_ok-switch-in-Read.was in
    rw (c.in-Read.is, ok.0, ok.1)

pub returns-in_err-switch-in-Voltage : goal.returns-in_err-switch-in-Voltage
unfolding wrong_value act_of
returns-in_err-switch-in-Voltage c =
    let is = rw (back c.args.v (omega arith)) at c.switch-in-Voltage.ensures in
    rw c.in-Voltage.is (err-by _ _ _ is _ _ _ c.in_err-switch-in-Voltage.was c.from_residual-in_err-switch-in-Voltage.ensures.1)

pub returns-in_ok-switch-in-Voltage : goal.returns-in_ok-switch-in-Voltage
unfolding wrong_value act_of
returns-in_ok-switch-in-Voltage c =
    let is = rw (back c.args.v (omega arith)) at c.switch-in-Voltage.ensures in
    let ok = ok-by _ _ _ is _ c.in_ok-switch-in-Voltage.was in
    rw (c.in-Voltage.is, ok.0, ok.1)

pub returns-in_err-number-in-Power : goal.returns-in_err-number-in-Power
unfolding wrong_value act_of
returns-in_err-number-in-Power c =
    let is = rw (back c.args.v (omega arith)) at c.number-in-Power.ensures in
    rw c.in-Power.is (err-by _ _ _ is _ _ _ c.in_err-number-in-Power.was c.from_residual-in_err-number-in-Power.ensures.1)

pub returns-in_ok-number-in-Power : goal.returns-in_ok-number-in-Power
unfolding wrong_value act_of
returns-in_ok-number-in-Power c =
    let is = rw (back c.args.v (omega arith)) at c.number-in-Power.ensures in
    let ok = ok-by _ _ _ is _ c.in_ok-number-in-Power.was in
    rw (c.in-Power.is, ok.0, ok.1)

pub returns-in_err-within-in-Temperature : goal.returns-in_err-within-in-Temperature
unfolding wrong_value act_of
returns-in_err-within-in-Temperature c =
    let is = rw (back c.args.v (omega arith)) at c.within.ensures in
    rw c.in-Temperature.is (err-by _ _ _ is _ _ _ c.in_err-within-in-Temperature.was c.from_residual-in_err-within-in-Temperature.ensures.1)

pub returns-in_ok-within-in-Temperature : goal.returns-in_ok-within-in-Temperature
unfolding wrong_value act_of
returns-in_ok-within-in-Temperature c =
    let is = rw (back c.args.v (omega arith)) at c.within.ensures in
    let ok = ok-by _ _ _ is _ c.in_ok-within-in-Temperature.was in
    rw (c.in-Temperature.is, ok.0, ok.1, back c.args.v (omega arith))

pub returns-in_err-switch-in-WriteProtect : goal.returns-in_err-switch-in-WriteProtect
unfolding wrong_value act_of
returns-in_err-switch-in-WriteProtect c =
    let is = rw (back c.args.v (omega arith)) at c.switch-in-WriteProtect.ensures in
    rw c.in-WriteProtect.is (err-by _ _ _ is _ _ _ c.in_err-switch-in-WriteProtect.was c.from_residual-in_err-switch-in-WriteProtect.ensures.1)

pub returns-in_ok-switch-in-WriteProtect : goal.returns-in_ok-switch-in-WriteProtect
unfolding wrong_value act_of
returns-in_ok-switch-in-WriteProtect c =
    let is = rw (back c.args.v (omega arith)) at c.switch-in-WriteProtect.ensures in
    let ok = ok-by _ _ _ is _ c.in_ok-switch-in-WriteProtect.was in
    rw (c.in-WriteProtect.is, ok.0, ok.1)
