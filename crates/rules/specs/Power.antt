-- Request P3, "Power lost in a write cycle": what a power cycle still does of a write cycle that is running. It stands in the place of document 01's
-- sentence "A write cycle that is running is dropped and the old bytes stay (bench)".
-- Assumes nothing.
use Rattle.std.specs.Prelude.{ℕ, zero, suc, Bool, false, not, cond, ◌&&◌, List, eqb, ltb, get_or}
use Rattle.proof_lists.specs.Each.{map_from}
use Rattle.rules.specs.declared.Cut.{Cut}
use Rattle.rules.specs.declared.Slot.{Slot}
use Rattle.rules.specs.Modelled.{absent}
use Rattle.rules.specs.Fields.{latched}
use Rattle.rules.specs.Fresh.{powered}
use Rattle.rules.specs.Memory.{ended, stored}

-- "a running cycle": ticks are left of it
unfoldable pub running : Slot → Bool
running s = not (eqb s.left 0)

-- how many bytes are latched below page offset n
unfoldable pub latched_below : List Bool → ℕ → ℕ
latched_below marks zero = 0
latched_below marks (suc n) = cond (get_or marks n false) (suc (latched_below marks n)) (latched_below marks n)

-- "of the bytes latched in a running cycle, in ascending page offset, the first so many are stored and the rest are lost": a latched byte is
-- one of the first k if fewer than k are latched below it
unfoldable pub first_of : Cut → List Bool → List Bool
first_of k marks = map_from (λ n marked. marked && ltb (latched_below marks n) k.0) 0 marks

-- a running cycle with the rest lost
unfoldable pub cut : Cut → Slot → Slot
cut k s = latched s.latch (first_of k s.marks) s

-- "For protect and clear, 0 keeps the old protection and any other number brings the new." (P9's lasting form is a protect.) So with 0 a running
-- cycle is dropped, and with any other number it ends; "Without a running cycle the number has no effect."
unfoldable pub finished : Cut → Slot → Bool
finished k s = running s && not (eqb k.0 0)

-- a present slot after the power cycle: that end, and then document 01's power cycle
unfoldable pub power_cut : Cut → Slot → Slot
power_cut k s = powered (cond (finished k s) (ended s) s)

-- and its 512 bytes m; an absent slot's are not touched
unfoldable pub cut_part : Cut → Slot → List ℕ → List ℕ
cut_part k s m = cond (absent s) m (cond (running s) (stored (cut k s) m) m)
