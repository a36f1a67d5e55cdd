-- Request P8, "The EVENT pin": what the public entry `pin` says of a slot's pin.
-- Assumes nothing.
use Rattle.std.specs.Prelude.{ℕ, Bool, not, cond, ◌||◌, eqb, ltb, get_or, Result, Ok, Err}
use Rattle.rules.specs.declared.Bus.{Bus}
use Rattle.rules.specs.declared.Pin.{Pin}
use Rattle.rules.specs.declared.Refusal.{Refusal}
use Rattle.rules.specs.declared.Refusal.TheVariants.{WrongSlot, WrongState}
use Rattle.rules.specs.declared.SlotNo.{SlotNo}
use Rattle.rules.specs.Events.{refusal_number}
use Rattle.rules.specs.Fresh.{absent_slot}
use Rattle.rules.specs.Pin.{pin_of}
use Rattle.rules.specs.Refusals.{kinds_of, kind_at, in_range}

-- "for kind 2 slots": a slot that is absent, above 7 or without sensor has no pin
unfoldable pub no_pin : Bus → SlotNo → Bool
no_pin b n = ltb 7 n.0 || not (eqb (kind_at (kinds_of b) n) 2)

-- what looking at a slot's pin gives
abbrev pub Looked : Type 0
Looked = Result Pin Refusal

-- refusal 6, then 3; else the pin as it stands
unfoldable pub look_of : Bus → SlotNo → Looked
look_of b n =
    cond (not (in_range b)) (Err WrongState)
    (cond (no_pin b n) (Err WrongSlot)
    (Ok (pin_of (get_or b.slots n.0 absent_slot).sensor)))

-- the number of each result: 0, or the refusal's
unfoldable pub looked_number : Looked → ℕ
looked_number (Ok p) = 0
looked_number (Err r) = refusal_number r

-- and its values: asserted or not, and the level, 1 high and 0 low; of a refusal 0
unfoldable pub asserted_value : Looked → ℕ
asserted_value (Ok p) = cond p.asserted 1 0
asserted_value (Err r) = 0

unfoldable pub level_value : Looked → ℕ
level_value (Ok p) = cond p.level 1 0
level_value (Err r) = 0
