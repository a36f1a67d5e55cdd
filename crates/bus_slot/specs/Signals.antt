-- The act of a signal, and the slot's step at it, which does not go by its number. Nothing is said here that the law does not say.
-- Assumes nothing.
use Rattle.rules.specs.declared.Act.{Act}
use Rattle.rules.specs.declared.Act.TheVariants as act
use Rattle.rules.specs.declared.Slot.{Slot}
use Rattle.rules.specs.Slot.{slot_next}
use Rattle.bus_slot.specs.declared.signal.Signal.{Signal}
use Rattle.bus_slot.specs.declared.signal.Signal.TheVariants as signal

unfoldable pub act_for : Signal → Act
act_for signal.Start = act.Start
act_for signal.Stop = act.Stop
act_for signal.Timeout = act.Timeout

unfoldable pub signalled : Signal → Slot → Slot
signalled x s = slot_next 0 (act_for x) s
