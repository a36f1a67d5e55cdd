-- Bundles of definitions, for `unfolding` lines: to unfold a bundle is to unfold what its own line names.
-- Assumes nothing.
use Rattle.proof_lists.specs.Each
use Rattle.proof_lists.specs.Parts
use Rattle.rules.specs.Modelled
use Rattle.rules.specs.Fields
use Rattle.rules.specs.Events
use Rattle.rules.specs.Fresh
use Rattle.rules.specs.Sensor
use Rattle.rules.specs.Pin
use Rattle.rules.specs.Control
use Rattle.rules.specs.Memory
use Rattle.rules.specs.Power
use Rattle.rules.specs.Slot
use Rattle.rules.specs.Bus
use Rattle.rules.specs.Refusals
use Rattle.rules.specs.Looked
use Rattle.rules.specs.Runs

-- fields replaced
unfoldable pub open-fields : Unit {0}
unfolding Fields.in_phase Fields.at_counter Fields.in_half Fields.with_left Fields.protecting Fields.to_come Fields.expecting Fields.with_voltage
    Fields.latched Fields.placed Fields.with_sensor Fields.holding Fields.pointing Fields.with_configuration Fields.with_high Fields.with_low
    Fields.with_critical Fields.with_temperature Fields.with_resolution Fields.with_timeout Fields.with_word Fields.with_pending Fields.lasts
    Fields.to_last Fields.with_pin Fields.with_old
open-fields = tt

-- the steps of memory exchanges and commands
unfoldable pub open-memory : Unit {0}
unfolding Memory.emptied Memory.abandoned Memory.cancelled Memory.loaded Memory.up_in_page Memory.latching Memory.data_byte Memory.fetched
    Memory.begun Memory.data_stop Memory.command_stop Memory.permanent_then Memory.brought Memory.ended Memory.ticked
open-memory = tt

-- the power cycle
unfoldable pub open-power : Unit {0}
unfolding Power.running Power.latched_below Power.first_of Power.cut Power.finished Power.power_cut Power.cut_part
open-power = tt

-- the sensor
unfoldable pub open-sensor : Unit {0}
unfolding Sensor.register_of Sensor.shut_down Sensor.critical_locked Sensor.limits_locked Sensor.locked_write Sensor.configured Sensor.written
    Sensor.bits_of Sensor.signed_of Sensor.step_of Sensor.multiple_below Sensor.multiple_above Sensor.nearest_of Sensor.stepped_of
    Sensor.hysteresis_of Sensor.lowered_of Sensor.flag_of Sensor.critical_flag Sensor.high_flag Sensor.low_flag Sensor.reading Sensor.converted
open-sensor = tt

-- the pin
unfoldable pub open-pin : Unit {0}
unfolding Pin.pin_enabled Pin.critical_alone Pin.active_high Pin.interrupting Pin.critical_set Pin.high_set Pin.low_set Pin.flag_counts Pin.asserted
    Pin.level_of Pin.pin_of Pin.can_pend Pin.changes Pin.converted_with_pin Pin.clearing Pin.pending_after Pin.written_with_pin Pin.read_of
open-pin = tt

-- the control byte
unfoldable pub open-control : Unit {0}
unfolding Control.select_of Control.is_read Control.command_of Control.heard_of Control.raised_command Control.own_command Control.older_command
    Control.heard_by Control.protects Control.acks_heard Control.acks_control Control.obeyed Control.controlled
open-control = tt

-- the slot's step
unfoldable pub open-slot : Unit {0}
unfolding Slot.standing Slot.let_go Slot.lost Slot.pointer Slot.first_byte Slot.second_byte Slot.byte_in Slot.acks_in Slot.read_in Slot.driven_in
    Slot.stop_in Slot.endures Slot.switched Slot.heated Slot.shielded Slot.applied Slot.present_next Slot.slot_next Slot.acks Slot.drives Slot.driven
open-slot = tt

-- the rows of refusals
unfoldable pub open-refusals : Unit {0}
unfolding Refusals.wrong_length Refusals.unknown_kind Refusals.kinds_of Refusals.kind_at Refusals.wrong_slot Refusals.outside Refusals.wrong_value
    Refusals.good_length Refusals.good_pair Refusals.kind_in_range Refusals.length_in_range Refusals.kept_in Refusals.sensor_in_range
    Refusals.pending_in_range Refusals.older_in_range Refusals.slot_in_range Refusals.in_range Refusals.ruled_for Refusals.ruled_by Refusals.ruling
    Refusals.empty_bus Refusals.setup_of
open-refusals = tt

-- everything: a run on known values computes
unfoldable pub open-all : Unit {0}
unfolding open-fields open-memory open-power open-sensor open-pin open-control open-slot open-refusals Each.map_from Each.any_from
    Each.first_from Parts.part Parts.each_part Modelled.absent Modelled.sensing Modelled.older Modelled.bytes_of Modelled.address_of Modelled.block_of
    Modelled.page_of Events.is_one Events.act_of Fresh.fresh_sensor Fresh.fresh_older Fresh.fresh_slot Fresh.setup_slot Fresh.absent_slot
    Fresh.powered Memory.pin_on Memory.guarded Memory.any_mark Memory.put_up_to Memory.stored Memory.ticked_part Bus.bus_next Bus.memory_next
    Bus.any_ack Bus.read_byte Bus.shown_for Bus.shown Runs.taken Runs.given Runs.ruling_on Runs.ruled_next Runs.ruled_answer Runs.next Runs.answered
    Runs.after Runs.answers Looked.no_pin Looked.look_of
open-all = tt
