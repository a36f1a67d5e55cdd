-- A slot's step at a byte and whether it acknowledges, side by side. Nothing is said here that the law does not say.
-- Assumes nothing.
use Rattle.std.specs.Prelude.{ℕ}
use Rattle.rules.specs.declared.Act.TheVariants as act
use Rattle.rules.specs.declared.Slot.{Slot}
use Rattle.rules.specs.Slot.{slot_next, acks}
use Rattle.bus_slot.specs.declared.obey.Heed.{Heed}

unfoldable pub heeded : ℕ → ℕ → Slot → Heed
heeded n b s = record { slot = slot_next n (act.Byte b) s; ack = acks n b s }
