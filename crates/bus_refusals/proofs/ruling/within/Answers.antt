-- The test of the definition.
use Rattle.std.proofs.Common.{arith}
use Rattle.rules.specs.Refusals.{outside}
use Rattle.bus_sensor.proofs.temperature.Signed.{back}
use Rattle.bus_refusals.proofs.ruling.within.Goals as goal

pub returns-then-v-least : goal.returns-then-v-least
unfolding outside
returns-then-v-least c =
    let e = rw (back c.args.v (omega arith), back c.args.least (omega arith), back c.args.most (omega arith)) at c.if-v-least.true in
    rw e

pub returns : goal.returns
unfolding outside
returns c =
    let e = rw (back c.args.v (omega arith), back c.args.least (omega arith), back c.args.most (omega arith)) at c.if-v-least.false in
    rw (e, back c.args.v (omega arith))
