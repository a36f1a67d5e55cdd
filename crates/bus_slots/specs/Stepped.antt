-- A slot's step at an act and what it shows, side by side, as the functions give them: the byte that it drives, if it
-- drives one. Nothing is said here that the law does not say.
-- Assumes nothing.
use Rattle.std.specs.Prelude.{ℕ, List, cond, Some, None}
use Rattle.rules.specs.declared.Act.{Act}
use Rattle.rules.specs.declared.Carried.{Carried}
use Rattle.rules.specs.declared.Carried.TheVariants as carries
use Rattle.rules.specs.declared.Slot.{Slot}
use Rattle.rules.specs.Events.{carried}
use Rattle.rules.specs.Slot.{slot_next, driven}
use Rattle.bus_slots.specs.Foreseen.{acks_for, drives_for}
use Rattle.bus_slots.specs.declared.step.Step.{Step}

-- the byte that stands on the wires, driven or not: FFh where none is
abbrev pub driven_for : Carried → List ℕ → Slot → ℕ
driven_for (carries.Byte b) m s = 0xFF
driven_for (carries.Read more) m s = driven m s
driven_for carries.Nothing m s = 0xFF

unfoldable pub stepped : ℕ → Act → List ℕ → Slot → Step
stepped n a m s = record
    { slot = slot_next n a s; ack = acks_for (carried a) n s; byte = cond (drives_for (carried a) s) (Some (driven_for (carried a) m s)) None }
