-- Request P1's rows, computed: each length with those one byte off it, each slot number with the first past the eight, each block with the ends of all; where
-- the pages lie; the rows in their order; what is judged after the five ticks; and records as bytes.
-- Assumes nothing.
use Rattle.std.proofs.Common.{Result}
use Prim.Native.Nat.{ℕ}
use mathlib.Core.Path.{◌≡◌, refl}
use mathlib.Core.Bool.{Bool, true, false}
use mathlib.Core.List.{List, [], ◌∷◌, ◌++◌, map}
use lib.IntN.{ℤ, pos, negsuc}
use lib.ListN.{drop, set, replicate}
use Rattle.rules.specs.declared.Act.{Act}
use Rattle.rules.specs.declared.Act.TheVariants.{Start, Byte, Stop, Tick}
use Rattle.rules.specs.declared.Bus.{Bus}
use Rattle.rules.specs.declared.Event.{Event}
use Rattle.rules.specs.declared.Refusal.{Refusal}
use Rattle.rules.specs.declared.Slot.{Slot}
use Rattle.rules.specs.declared.SlotNo.{SlotNo}
use Rattle.rules.specs.Open.{open-all}
use Rattle.rules.specs.Fields.{at_counter, in_half, with_left, with_voltage, protecting, expecting, latched}
use Rattle.rules.specs.Events.{refusal_number}
use Rattle.rules.specs.Fresh.{no_bytes, no_marks, no_blocks, fresh_slot, absent_slot}
use Rattle.rules.specs.Runs.{Bench, after, slot_after}
use Rattle.script_text.specs.Records.{value_at, record_at}
use Rattle.plan_rules.specs.Records as Records
use Rattle.plan_rules.specs.Records.{records_of, events_in}
use Rattle.plan_rules.specs.Plan as Plan
use Rattle.plan_rules.specs.Plan.{page_count, page_half, page_block, page_counter, barred_before, wrong_lengths, no_such_slot, plan_of, plan_number, plan_value}

-- a plan for known values computes
unfoldable pub open-plan : Unit {0}
unfolding Plan.ticks Plan.five_ticks Plan.settled Plan.slot_at Plan.bytes_at Plan.page_at Plan.page_half Plan.page_block Plan.page_counter Plan.selecting Plan.writing Plan.differs
    Plan.barred Plan.barred_before Plan.half_before Plan.page_events Plan.pages_before Plan.plan_events Plan.wrong_lengths Plan.no_such_slot Plan.forbidden Plan.planned Plan.plan_of Plan.plan_number
    Plan.plan_value Records.word_of Records.record_of Records.records_of Records.laid Records.events_in record_at value_at refusal_number open-all
open-plan = tt

abbrev slot : ℕ → SlotNo
slot n = record { 0 = n }

abbrev zeros : ℕ → List ℕ
zeros n = replicate n 0

-- "a memory, image or buffer of another length is 1"
abbrev first_row : ℕ × ℕ × ℕ → Bool
first_row p = wrong_lengths (zeros p.0) (zeros p.1) (zeros p.2)

pub row-1 : map first_row
    ((4096, 512, 4096)
    ∷ (0, 512, 4096) ∷ (4095, 512, 4096) ∷ (4097, 512, 4096)
    ∷ (4096, 0, 4096) ∷ (4096, 511, 4096) ∷ (4096, 513, 4096)
    ∷ (4096, 512, 0) ∷ (4096, 512, 4095) ∷ (4096, 512, 4097) ∷ [])
    ≡ false ∷ replicate 9 true
unfolding open-plan
row-1 = refl

-- "a slot absent or above 7 is 3"; P9: "3 is given [..] by P1 for a kind 3 slot": a bus with a memory in slot 0, a sensor in slot 2, an older module in
-- slot 3 and none elsewhere; and one with all eight
abbrev some : Bus
some = record { slots = fresh_slot 1 5 ∷ absent_slot ∷ fresh_slot 2 1 ∷ fresh_slot 3 1 ∷ replicate 4 absent_slot }

abbrev full : Bus
full = record { slots = replicate 8 (fresh_slot 1 5) }

abbrev tries : List ℕ
tries = 0 ∷ 1 ∷ 2 ∷ 3 ∷ 4 ∷ 5 ∷ 6 ∷ 7 ∷ 8 ∷ 9 ∷ 255 ∷ []

pub row-3 : map (λ n. no_such_slot (slot n) some) tries ≡ false ∷ true ∷ false ∷ replicate 8 true
unfolding open-plan
row-3 = refl

pub row-3-full : map (λ n. no_such_slot (slot n) full) tries ≡ false ∷ false ∷ false ∷ false ∷ false ∷ false ∷ false ∷ false ∷ true ∷ true ∷ true ∷ []
unfolding open-plan
row-3-full = refl

-- pages at the ends of the four blocks: the half, the block and the counter
abbrev place_of : ℕ → ℕ × ℕ × ℕ
place_of p = (page_half p, (page_block p).0, page_counter p)

pub pages : map place_of (0 ∷ 7 ∷ 8 ∷ 15 ∷ 16 ∷ 23 ∷ 24 ∷ 31 ∷ [])
    ≡ (0, 0, 0x00) ∷ (0, 0, 0x70) ∷ (0, 1, 0x80) ∷ (0, 1, 0xF0) ∷ (1, 2, 0x00) ∷ (1, 2, 0x70) ∷ (1, 3, 0x80) ∷ (1, 3, 0xF0) ∷ []
unfolding open-plan
pages = refl

-- "a page that differs lies in a protected block": one block is protected, and one byte differs, the first or the last of a block
abbrev seventh_row : ℕ → ℕ → Bool
seventh_row block at = barred_before (zeros 512) (set (zeros 512) at 1) (protecting (set no_blocks block true) (fresh_slot 1 5)) page_count

pub row-7 : map (λ block. map (seventh_row block) (0 ∷ 127 ∷ 128 ∷ 255 ∷ 256 ∷ 383 ∷ 384 ∷ 511 ∷ [])) (0 ∷ 1 ∷ 2 ∷ 3 ∷ [])
    ≡ (true ∷ true ∷ false ∷ false ∷ false ∷ false ∷ false ∷ false ∷ [])
    ∷ (false ∷ false ∷ true ∷ true ∷ false ∷ false ∷ false ∷ false ∷ [])
    ∷ (false ∷ false ∷ false ∷ false ∷ true ∷ true ∷ false ∷ false ∷ [])
    ∷ (false ∷ false ∷ false ∷ false ∷ false ∷ false ∷ true ∷ true ∷ []) ∷ []
unfolding open-plan
row-7 = refl

-- what is given, by its number and value, for slot k, an image and a buffer of n bytes
abbrev given : Bench → ℕ → List ℕ → ℕ → ℕ × ℕ
given x k image n = let v : Result ℕ Refusal = (plan_of x.bus x.memory (slot k) image (zeros n)).0 in (plan_number v, plan_value v)

-- images that differ from 512 zeros in no byte, in the last of block 2, and in the last of block 3
abbrev none : List ℕ
none = zeros 512

abbrev third : List ℕ
third = set none 383 1

abbrev last : List ℕ
last = set none 511 1

-- "Order 1, 6, 3, 7": slot 0 with its last block protected, and an absent slot 1 with all four; the same with a half of 2 in slot 7. What is given a row's
-- number meets the rows behind it too
abbrev good : Bench
good = record {
  bus = record { slots = protecting (set no_blocks 3 true) (fresh_slot 1 5) ∷ protecting (replicate 4 true) absent_slot ∷ replicate 6 absent_slot };
  memory = zeros 4096;
}

abbrev odd : Bench
odd = record { bus = record { slots = set good.bus.slots 7 (in_half 2 absent_slot) }; memory = zeros 4096 }

pub order : given odd 1 last 4095 ∷ given odd 1 last 4096 ∷ given good 1 last 4096 ∷ given good 0 last 4096 ∷ given good 0 third 4096 ∷ []
    ≡ (1, 0) ∷ (6, 0) ∷ (3, 0) ∷ (7, 0) ∷ (0, 33) ∷ []
unfolding open-plan
order = refl

-- "pages and protection are judged after them": slot 0 with five ticks left of a protect, of a clear, and of a write of 01h to its last byte
abbrev bench : Slot → Bench
bench s = record { bus = record { slots = s ∷ replicate 7 absent_slot }; memory = zeros 4096 }

abbrev cycle : Slot
cycle = with_left 5 (fresh_slot 1 5)

abbrev protect : Slot
protect = expecting (replicate 4 true) cycle

abbrev clear : Slot
clear = protecting (replicate 4 true) cycle

abbrev write : Slot
write = latched (set no_bytes 15 1) (set no_marks 15 true) (at_counter 0xF0 (in_half 1 cycle))

-- and of such a write where all blocks are protected
abbrev guarded : Slot
guarded = protecting (replicate 4 true) (expecting (replicate 4 true) write)

pub after-the-ticks : given (bench protect) 0 last 4096 ∷ given (bench clear) 0 last 4096
    ∷ given (bench write) 0 last 4096 ∷ given (bench write) 0 none 4096 ∷ given (bench guarded) 0 last 4096 ∷ given (bench guarded) 0 none 4096 ∷ []
    ≡ (7, 0) ∷ (0, 33) ∷ (0, 5) ∷ (0, 30) ∷ (0, 5) ∷ (7, 0) ∷ []
unfolding open-plan
after-the-ticks = refl

-- "by P1 for a kind 3 slot", before 7: an older module whose block is protected, and an image that differs in it; and one with nothing to be written
abbrev older_protected : Slot
older_protected = protecting (set no_blocks 0 true) (fresh_slot 3 5)

pub older-refused : given (bench older_protected) 0 (set none 0 1) 4096 ∷ given (bench (fresh_slot 3 5)) 0 none 4096 ∷ [] ≡ (3, 0) ∷ (3, 0) ∷ []
unfolding open-plan
older-refused = refl

-- P9: a plan beside older modules in slots 6 and 7, that selects half 0 by 6Ch, writes a page, selects half 1 by 6Eh and writes another: both modules are
-- as they were
abbrev beside : Bench
beside = record {
  bus = record { slots = in_half 1 (fresh_slot 1 1) ∷ replicate 5 absent_slot ++ fresh_slot 3 5 ∷ fresh_slot 3 5 ∷ [] };
  memory = zeros 4096;
}

abbrev both : List ℕ
both = set (set none 0 1) 511 1

pub beside-older : given beside 0 both 4096 ≡ (0, 53)
unfolding open-plan
beside-older = refl

pub unharmed : drop 6 (after (Plan.plan_events 0 beside both) beside).bus.slots ≡ fresh_slot 3 5 ∷ fresh_slot 3 5 ∷ []
unfolding open-plan
unharmed = refl

-- With two bytes after it the half command would be the lasting form, of slot 6 by 6Ch and of slot 7 by 6Eh: what is permanent five ticks after a command
-- with no byte, one, two and three, in slots 5, 6 and 7. With the voltage on it is none.
abbrev command : List ℕ → ℕ → List Act
command bytes b = Start ∷ map Byte (b ∷ bytes) ++ Stop ∷ replicate 5 Tick

abbrev permanent_after : List ℕ → ℕ → ℕ → Slot → Bool
permanent_after bytes b n s = (slot_after n (command bytes b) s).old.permanent

abbrev neighbours : Slot → ℕ → List (List Bool)
neighbours s count = map (λ n. map (λ b. permanent_after (zeros count) b n s) (0x6C ∷ 0x6E ∷ [])) (5 ∷ 6 ∷ 7 ∷ [])

abbrev nowhere : List (List Bool)
nowhere = replicate 3 (false ∷ false ∷ [])

pub two_bytes : map (neighbours (fresh_slot 3 5)) (0 ∷ 1 ∷ 2 ∷ 3 ∷ [])
    ≡ nowhere ∷ nowhere ∷ ((false ∷ false ∷ []) ∷ (true ∷ false ∷ []) ∷ (false ∷ true ∷ []) ∷ []) ∷ nowhere ∷ []
unfolding open-plan slot_after
two_bytes = refl

pub voltage-on : neighbours (with_voltage true (fresh_slot 3 5)) 2 ≡ nowhere
unfolding open-plan slot_after
voltage-on = refl

-- "kind, slot, value high byte first, two's complement": events as bytes, and read again
abbrev event : ℕ → ℕ → ℤ → Event
event kind slot value = record { kind = kind; slot = record { 0 = slot }; value = value }

abbrev told : List Event
told = event 9 5 (negsuc 639) ∷ event 9 6 (pos 2000) ∷ event 7 3 (negsuc 0) ∷ []

abbrev written : List ℕ
written = 0x09 ∷ 0x05 ∷ 0xFD ∷ 0x80 ∷ 0x09 ∷ 0x06 ∷ 0x07 ∷ 0xD0 ∷ 0x07 ∷ 0x03 ∷ 0xFF ∷ 0xFF ∷ []

pub records : records_of told ≡ written
unfolding open-plan
records = refl

pub records-read : events_in written 3 ≡ told
unfolding open-plan
records-read = refl
