-- What a slot shows at an act, and what can be told of its step beforehand. Nothing is said here that the law does not say.
-- Assumes nothing.
use Rattle.std.specs.Prelude.{ℕ, ◌≡◌, ◌⊎◌, Bool, true, false, List}
use Rattle.rules.specs.declared.Act.{Act}
use Rattle.rules.specs.declared.Carried.{Carried}
use Rattle.rules.specs.declared.Carried.TheVariants as carries
use Rattle.rules.specs.declared.Heard.{Heard}
use Rattle.rules.specs.declared.Heard.TheVariants as heard
use Rattle.rules.specs.declared.Phase.{Phase}
use Rattle.rules.specs.declared.Phase.TheVariants.{Idle, Deaf}
use Rattle.rules.specs.declared.Slot.{Slot}
use Rattle.rules.specs.Control.{heard_of}
use Rattle.rules.specs.Events.{carried}
use Rattle.rules.specs.Fields.{in_phase}
use Rattle.rules.specs.Slot.{slot_next, acks, drives, part_next}
use Rattle.bus_slots.specs.declared.foreseen.Change.{Change}
use Rattle.bus_slots.specs.declared.foreseen.Change.TheVariants as change

-- what a byte asks for as a control byte
abbrev pub heard_in : Carried → Heard
heard_in (carries.Byte b) = heard_of b
heard_in (carries.Read more) = heard.Nothing
heard_in carries.Nothing = heard.Nothing

-- a byte or a read
abbrev pub carrying : Carried → Bool
carrying (carries.Byte b) = true
carrying (carries.Read more) = true
carrying carries.Nothing = false

-- idle or deaf
abbrev pub Unheard : Phase → Type 0
Unheard p = (p ≡ Idle) ⊎ (p ≡ Deaf)

-- only a byte is acknowledged, and only a read is driven
abbrev pub acks_for : Carried → ℕ → Slot → Bool
acks_for (carries.Byte b) n s = acks n b s
acks_for (carries.Read more) n s = false
acks_for carries.Nothing n s = false

abbrev pub drives_for : Carried → Slot → Bool
drives_for (carries.Byte b) s = false
drives_for (carries.Read more) s = drives s
drives_for carries.Nothing s = false

-- nothing is shown, and no byte changes
pub record Silent (n : ℕ) (a : Act) (s : Slot) : Type 0 where
  pub mute : acks_for (carried a) n s ≡ false
  pub still : drives_for (carried a) s ≡ false
  pub kept : (m : List ℕ) → part_next a s m ≡ m

-- what is told of a step before it is done
unfoldable pub Foreseen : Change → ℕ → Act → Slot → Type 0
Foreseen change.Nothing n a s = (slot_next n a s ≡ s) × Silent n a s
Foreseen (change.To p) n a s = (slot_next n a s ≡ in_phase p s) × Silent n a s
Foreseen change.More n a s = Unit {0}
