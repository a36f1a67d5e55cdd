-- The definitions that the proofs of each module open, in bundles, for the attribute at the head of its file: to unfold a bundle is to unfold what its
-- own line names.
-- Assumes nothing.
use Rattle.bus_slot.specs.Heeded
use Rattle.bus_slot.specs.ReadOut
use Rattle.bus_slot.specs.Signals
use Rattle.bus_slots.specs.Stepped
use Rattle.rules.specs.Slot

-- for src/step
unfoldable pub step : Unit {0}
unfolding Heeded.heeded ReadOut.read_out Signals.act_for Signals.signalled Stepped.stepped Slot.part_next Slot.present_next Slot.slot_next
step = tt
