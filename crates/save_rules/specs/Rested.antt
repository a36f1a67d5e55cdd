-- Request P5, "Saving a bench overnight": what a form keeps of a slot.
-- Assumes nothing.
use Rattle.std.specs.Prelude.{◌≡◌, cond, map, length}
use Rattle.proof_lists.specs.Each.{Every}
use Rattle.rules.specs.declared.Bus.{Bus}
use Rattle.rules.specs.declared.Slot.{Slot}
use Rattle.rules.specs.Modelled.{slot_count, absent, sensing, older}
use Rattle.rules.specs.Fresh.{fresh_sensor, fresh_older, absent_slot, at_rest}

-- "What was saved reads back the same, the rest as fresh": of a slot at rest its kind, length, half, counter, protection, voltage; of its sensor, if
-- it has one, the registers and whether a change is pending; of an older slot whether protection is permanent, and its write-protect pin; of an
-- absent slot nothing
unfoldable pub rested : Slot → Slot
rested s =
    cond (absent s) absent_slot
    (at_rest s.kind s.length s.half s.counter s.protection s.voltage (cond (sensing s) s.sensor fresh_sensor)
    (cond (older s) s.old fresh_older))

unfoldable pub rested_bus : Bus → Bus
rested_bus b = record { slots = map rested b.slots }

-- what the program's types say of a bus: eight slots, each with four blocks
pub record Typed (b : Bus) : Type 0 where
  pub slots : length b.slots ≡ slot_count
  pub blocks : Every (λ (s : Slot). length s.protection ≡ 4) b.slots
