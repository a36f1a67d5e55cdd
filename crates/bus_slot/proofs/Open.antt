-- The definitions that the proofs of each module open, in bundles, for the attribute at the head of its file: to unfold a bundle is to unfold what its
-- own line names.
-- Assumes nothing.
use Rattle.bus_slot.specs.Heeded
use Rattle.bus_slot.specs.ReadOut
use Rattle.bus_slot.specs.Signals
use Rattle.rules.specs.Control
use Rattle.rules.specs.Fields
use Rattle.rules.specs.Fresh
use Rattle.rules.specs.Memory
use Rattle.rules.specs.Modelled
use Rattle.rules.specs.Power
use Rattle.rules.specs.Slot

-- for src/blocks
unfoldable pub blocks : Unit {0}
unfolding Control.protects Fields.to_come Fields.to_last Memory.guarded Memory.pin_on Modelled.address_of Modelled.block_of Modelled.older
blocks = tt

-- for src/cycle
unfoldable pub cycle : Unit {0}
unfolding Fields.expecting Fields.lasts Fields.latched Fields.placed Fields.protecting Fields.to_last Fields.with_left Fields.with_old Memory.begun
    Memory.brought Memory.command_stop Memory.data_stop Memory.emptied Memory.ended Memory.permanent_then Memory.stored Memory.ticked
    Memory.ticked_part Modelled.older Modelled.page_of Slot.present_next Slot.slot_next
cycle = tt

-- for src/drive
unfoldable pub drive : Unit {0}
unfolding ReadOut.read_out Slot.driven Slot.driven_in Slot.drives Slot.read_in
drive = tt

-- for src/leaving
unfoldable pub leaving : Unit {0}
unfolding Fields.expecting Fields.latched Fields.placed Fields.to_come Fields.to_last Memory.abandoned Memory.cancelled Memory.emptied Slot.let_go
    Slot.lost
leaving = tt

-- for src/listen
unfoldable pub listen : Unit {0}
unfolding Heeded.heeded Control.acks_control Control.controlled Fields.holding Fields.in_phase Fields.pointing Fields.with_sensor Fields.with_word
    Memory.data_byte Slot.acks Slot.acks_in Slot.byte_in Slot.first_byte Slot.pointer Slot.second_byte
listen = tt

-- for src/memory
unfoldable pub memory : Unit {0}
unfolding Fields.at_counter Fields.in_phase Fields.latched Fields.placed Memory.fetched Memory.latching Memory.loaded Memory.up_in_page
    Modelled.address_of
memory = tt

-- for src/obey
unfoldable pub obey : Unit {0}
unfolding Control.acks_heard Control.obeyed Fields.expecting Fields.in_half Fields.in_phase Fields.to_come Fields.to_last Modelled.sensing
obey = tt

-- for src/phase
unfoldable pub phase : Unit {0}
unfolding Fields.holding Fields.in_phase Fields.with_sensor Fields.with_word Modelled.absent Modelled.sensing Slot.standing
phase = tt

-- for src/pins
unfoldable pub pins : Unit {0}
unfolding Fields.with_old Fields.with_pin Fields.with_sensor Fields.with_voltage Modelled.absent Modelled.older Modelled.sensing Slot.applied
    Slot.endures Slot.heated Slot.shielded Slot.switched
pins = tt

-- for src/power
unfoldable pub power : Unit {0}
unfolding Fields.latched Fresh.fresh_older Fresh.fresh_slot Fresh.powered Power.cut Power.cut_part Slot.present_next Slot.slot_next
power = tt

-- for src/signal
unfoldable pub signal : Unit {0}
unfolding Signals.act_for Signals.signalled Modelled.absent Slot.present_next Slot.slot_next Slot.stop_in
signal = tt
