-- The definitions that the proofs of each module open, in bundles, for the attribute at the head of its file: to unfold a bundle is to unfold what its
-- own line names.
-- Assumes nothing.
use Rattle.rules.specs.Fields
use Rattle.rules.specs.Pin
use Rattle.rules.specs.Sensor

-- for src/pin
unfoldable pub pin : Unit {0}
unfolding Fields.with_pending Pin.active_high Pin.asserted Pin.can_pend Pin.changes Pin.clearing Pin.converted_with_pin Pin.critical_alone
    Pin.critical_set Pin.flag_counts Pin.high_set Pin.interrupting Pin.level_of Pin.low_set Pin.pending_after Pin.pin_enabled Pin.pin_of Pin.read_of
    Pin.written_with_pin
pin = tt

-- for src/registers
unfoldable pub registers : Unit {0}
unfolding Fields.with_configuration Fields.with_critical Fields.with_high Fields.with_low Fields.with_resolution Fields.with_timeout
    Sensor.configured Sensor.critical_locked Sensor.limits_locked Sensor.locked_write Sensor.register_of Sensor.written
registers = tt

-- for src/temperature
unfoldable pub temperature : Unit {0}
unfolding Fields.with_temperature Sensor.bits_of Sensor.converted Sensor.critical_flag Sensor.flag_of Sensor.high_flag Sensor.hysteresis_of
    Sensor.low_flag Sensor.lowered_of Sensor.reading Sensor.shut_down Sensor.signed_of Sensor.step_of Sensor.stepped_of
temperature = tt
