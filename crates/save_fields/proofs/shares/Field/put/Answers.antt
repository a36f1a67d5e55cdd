-- A present slot's state, and an absent one's; a sensor's room.
use Rattle.std.proofs.Common.{sym, ◌∙◌, arith, refl}
use Rattle.save_fields.proofs.Open.{table}
use Rattle.save_fields.proofs.shares.Laws.{length-sensor, bit-byte, none-put}
use Rattle.save_fields.proofs.shares.Field.put.Goals as goal

pub put-requires-in-State : goal.put-requires-in-State
unfolding table
put-requires-in-State c = let r = rw (c.in-State.is, sym c.if-not-is_absent-2.ensures) at c.requires in omega arith

pub put_sensor-requires : goal.put_sensor-requires
unfolding table
put_sensor-requires c = let r = rw (c.in-Sensor.is, sym c.if-has_sensor.ensures) at c.requires in omega (arith, length-sensor c.args.s.now.sensor)

pub returns-in-State : goal.returns-in-State
unfolding table
returns-in-State c =
    let v = c.from.ensures ∙ bit-byte c.args.s.now.voltage in
    rw (c.in-State.is, sym c.if-not-is_absent-2.ensures, ← c.bits.ensures.0, ← v) c.put-in-State.ensures

pub returns-in_default-2 : goal.returns-in_default-2
unfolding table
returns-in_default-2 c = rw (c.in-State.is, sym c.if-not-is_absent-2.ensures) (none-put c.args.out.now c.args.at _ refl)
