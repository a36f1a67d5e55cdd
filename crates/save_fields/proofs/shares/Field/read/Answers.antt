-- Field by field.
use Rattle.std.proofs.Common.{sym}
use Rattle.rules.specs.Open.{open-fields}
use Rattle.save_fields.proofs.Open.{table}
use Rattle.save_fields.proofs.shares.Field.read.Goals as goal

pub returns-in-State : goal.returns-in-State
unfolding table
returns-in-State c = rw (c.in-State.is, sym c.if-not-is_absent.ensures) c.read_state.ensures

pub returns-in-Sensor : goal.returns-in-Sensor
unfolding table open-fields
returns-in-Sensor c = rw (c.in-Sensor.is, sym c.if-has_sensor.ensures, c.sensor_at.ensures)

pub returns-in-Pending : goal.returns-in-Pending
unfolding table open-fields
returns-in-Pending c = rw (c.in-Pending.is, sym c.if-has_sensor-2.ensures, c.pending_at.ensures)

pub returns-in-Older : goal.returns-in-Older
unfolding table open-fields
returns-in-Older c = rw (c.in-Older.is, sym c.if-is_older.ensures, c.older_at.ensures)

pub returns-in_default : goal.returns-in_default
unfolding table
returns-in_default c = rw (c.in-State.is, sym c.if-not-is_absent.ensures)
