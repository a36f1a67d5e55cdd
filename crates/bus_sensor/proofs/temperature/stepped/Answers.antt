-- `temperature::stepped`: one law over half the step, at the halves 4, 2, 1; at steps of 1 the number itself is the nearest.
use Rattle.std.proofs.Common.{arith, ne_eqb}
use Rattle.rules.specs.Sensor.{step_of}
use Rattle.bus_sensor.proofs.temperature.Rounded.{rounded-is, single-is}
use Rattle.bus_sensor.proofs.temperature.stepped.Goals as goal

pub returns-in-0 : goal.returns-in-0
unfolding step_of
returns-in-0 c = rw (c.in-0.is, c.from-wide.ensures) (rounded-is 4 (omega arith) (omega arith) _ c.ranges.given)

pub returns-in-1 : goal.returns-in-1
unfolding step_of
returns-in-1 c = rw (c.in-1.is, c.from-wide.ensures) (rounded-is 2 (omega arith) (omega arith) _ c.ranges.given)

pub returns-in-2 : goal.returns-in-2
unfolding step_of
returns-in-2 c = rw (c.in-2.is, c.from-wide.ensures) (rounded-is 1 (omega arith) (omega arith) _ c.ranges.given)

pub returns-in_default : goal.returns-in_default
unfolding step_of
returns-in_default c =
    let r = c.args.resolution in
    rw (ne_eqb r 0 (λ e. omega arith), ne_eqb r 1 (λ e. omega arith), ne_eqb r 2 (λ e. omega arith), c.from-wide.ensures) (single-is _ c.ranges.given)
