-- A slot's step at a read and the byte that it drives, if it drives one, side by side. Nothing is said here that the law does not say.
-- Assumes nothing.
use Rattle.std.specs.Prelude.{Bool, cond, ℕ, List, Some, None}
use Rattle.rules.specs.declared.Act.TheVariants as act
use Rattle.rules.specs.declared.Slot.{Slot}
use Rattle.rules.specs.Slot.{slot_next, drives, driven}
use Rattle.bus_slot.specs.declared.drive.Drive.{Drive}

unfoldable pub read_out : Bool → List ℕ → Slot → Drive
read_out more m s = record { slot = slot_next 0 (act.Read more) s; byte = cond (drives s) (Some (driven m s)) None }
