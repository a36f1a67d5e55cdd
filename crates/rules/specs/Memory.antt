-- Document 01, "Memory exchanges": the counter, the latch, commands, the write cycle.
-- Assumes nothing.
use Rattle.std.specs.Prelude.{ℕ, zero, suc, ◌+◌, ◌-◌, ◌*◌, ◌/◌, ◌%◌, Bool, true, false, cond, ◌&&◌, ◌||◌, List, [], ◌∷◌, eqb, get_or, set}
use Rattle.proof_lists.specs.Each.{any_from}
use Rattle.rules.specs.declared.Phase.TheVariants.{Deaf, MemoryData, MemoryRead}
use Rattle.rules.specs.declared.Slot.{Slot}
use Rattle.rules.specs.Modelled.{absent, older, address_of, block_of, page_of}
use Rattle.rules.specs.Fields.{in_phase, at_counter, with_left, protecting, expecting, latched, placed, lasts, with_old}
use Rattle.rules.specs.Fresh.{no_bytes, no_marks}
use Rattle.rules.specs.Control.{protects}

-- the latch with nothing in it
unfoldable pub emptied : Slot → Slot
emptied s = latched no_bytes no_marks s

-- "abandons the bytes; the counter stays where it then stands": nothing is latched, and there is no place for a next byte
unfoldable pub abandoned : Slot → Slot
abandoned s = placed 0 (emptied s)

-- "cancels": the protection to come is the one that stands, and it will not be permanent that was not
unfoldable pub cancelled : Slot → Slot
cancelled s = expecting s.protection s

-- "Write: the next byte loads the 8-bit counter and is acknowledged."
unfoldable pub loaded : ℕ → Slot → Slot
loaded b s = in_phase MemoryData (placed (b % 16) (at_counter b s))

-- P9: "the write-protect pin: while it is on", which only an older module has
unfoldable pub pin_on : Slot → Bool
pin_on s = older s && s.old.pin

-- "Each later byte: if the block is protected, NACK, deaf, counter still"; P9: "while it is on, data bytes get NACK", as in a protected block
unfoldable pub guarded : Slot → Bool
guarded s = protects (block_of (address_of s)) s || pin_on s

-- the counter with its low four bits one up, wrapping
unfoldable pub up_in_page : ℕ → ℕ
up_in_page c = c / 16 * 16 + (c % 16 + 1) % 16

-- "else it is acknowledged and latched at the counter's offset in its 16-byte page, and the low four counter bits go up by one, wrapping.
-- A later byte at the same offset replaces the earlier." The place for the next byte is the new counter's offset.
unfoldable pub latching : ℕ → Slot → Slot
latching b s =
    at_counter (up_in_page s.counter)
    (placed (up_in_page s.counter % 16) (latched (set s.latch (s.counter % 16) b) (set s.marks (s.counter % 16) true) s))

unfoldable pub data_byte : ℕ → Slot → Slot
data_byte b s = cond (guarded s) (in_phase Deaf (abandoned s)) (latching b s)

-- "Read: each read drives the byte at the address, and the counter goes up by one modulo 256, in the selected half. After a master NACK the slot is
-- deaf."
unfoldable pub fetched : Bool → Slot → Slot
fetched more s = in_phase (cond more MemoryRead Deaf) (at_counter ((s.counter + 1) % 256) s)

-- "A stop with at least one latched byte begins the write cycle"
unfoldable pub any_mark : List Bool → Bool
any_mark marks = any_from (λ n m. m) 0 marks

-- the write cycle begins, at its full length
unfoldable pub begun : Slot → Slot
begun s = with_left s.length (placed 0 s)

-- a page's cycle, which brings no protection: what is to come after it is what stands
unfoldable pub data_stop : Slot → Slot
data_stop s = cond (any_mark s.marks) (begun (cancelled s)) (abandoned s)

-- a command's cycle; P9: the commands are "without cycle or effect if it is on at the stop"
unfoldable pub command_stop : Slot → Slot
command_stop s = cond (pin_on s) (cancelled s) (begun s)

-- P9: "protects for ever", and what was permanent stays so
unfoldable pub permanent_then : Slot → Bool
permanent_then s = s.old.permanent || s.old.lasting

-- the protection that a cycle's end brings: the one to come; of an older module "bit 0 alone, set if permanent". (A state may be handed in in which
-- a clear runs under permanent protection, or a protect of another block: row 6 has no cause against it. The end of the one leaves bit 0, that of
-- the other brings nothing.)
unfoldable pub brought : Slot → List Bool
brought s = cond (older s) ((get_or s.coming 0 false || permanent_then s) ∷ false ∷ false ∷ false ∷ []) s.coming

-- "the tick that ends it (the slot's Nth after the stop)": what was latched is in memory, the protection to come stands, and nothing more is to come
unfoldable pub ended : Slot → Slot
ended s = with_left 0 (emptied (expecting (brought s) (protecting (brought s) (with_old (lasts (permanent_then s) s.old) s))))

unfoldable pub ticked : Slot → Slot
ticked s = cond (eqb s.left 1) (ended s) (with_left (s.left - 1) s)

-- "puts the latched bytes in memory and touches no other": the marked of the first n bytes of the latch, from the page's beginning on
unfoldable pub put_up_to : List ℕ → List Bool → ℕ → ℕ → List ℕ → List ℕ
put_up_to latch marks at zero m = m
put_up_to latch marks at (suc n) m =
    cond (get_or marks n false) (set (put_up_to latch marks at n m) (at + n) (get_or latch n 0)) (put_up_to latch marks at n m)

unfoldable pub stored : Slot → List ℕ → List ℕ
stored s m = put_up_to s.latch s.marks (page_of (address_of s)).0 16 m

-- a tick, on the slot's 512 bytes; an absent slot's are not touched
unfoldable pub ticked_part : Slot → List ℕ → List ℕ
ticked_part s m = cond (absent s) m (cond (eqb s.left 1) (stored s m) m)
