-- Request P1, "Programming planner": what a plan is, sentence by sentence, and what the planner gives for every input.
-- Assumes nothing.
use Rattle.std.specs.Prelude.{ℕ, zero, suc, ◌+◌, ◌*◌, ◌/◌, ◌%◌, Bool, true, false, not, cond, ◌&&◌, ◌||◌, List, [], ◌∷◌, ◌++◌, map, eqb, ltb, pos, length, get_or, replicate, Result, Ok, Err}
use Rattle.std.specs.Str.{bytes_eq}
use Rattle.proof_lists.specs.Parts.{part}
use Rattle.rules.specs.declared.BlockNo.{BlockNo}
use Rattle.rules.specs.declared.Bus.{Bus}
use Rattle.rules.specs.declared.Event.{Event}
use Rattle.rules.specs.declared.Refusal.{Refusal}
use Rattle.rules.specs.declared.Refusal.TheVariants.{MemoryLength, WrongSlot, WrongState, ProtectedPage}
use Rattle.rules.specs.declared.Slot.{Slot}
use Rattle.rules.specs.declared.SlotNo.{SlotNo}
use Rattle.rules.specs.Modelled.{slot_bytes}
use Rattle.rules.specs.Fresh.{absent_slot}
use Rattle.rules.specs.Control.{protects}
use Rattle.rules.specs.Events.{refusal_number}
use Rattle.rules.specs.Refusals.{wrong_length, kinds_of, kind_at, in_range}
use Rattle.rules.specs.Runs.{Bench, after}
use Rattle.plan_rules.specs.Records.{laid}

-- "script records": the four kinds of event that a plan has; every empty cell is 0
abbrev pub event : ℕ → ℕ → Event
event kind value = record { kind = kind; slot = record { 0 = 0 }; value = pos value }

abbrev pub start : Event
start = event 1 0

abbrev pub byte : ℕ → Event
byte b = event 2 b

abbrev pub stop : Event
stop = event 4 0

abbrev pub tick : Event
tick = event 6 0

unfoldable pub ticks : ℕ → List Event
ticks n = replicate n tick

-- "Five ticks come first; pages and protection are judged after them": the bench that they leave, of it slot k, and the slot's 512 bytes
abbrev pub five : ℕ
five = 5

unfoldable pub five_ticks : List Event
five_ticks = ticks five

unfoldable pub settled : Bench → Bench
settled x = after five_ticks x

unfoldable pub slot_at : ℕ → Bench → Slot
slot_at k x = get_or x.bus.slots k absent_slot

unfoldable pub bytes_at : ℕ → Bench → List ℕ
bytes_at k x = part slot_bytes k x.memory

-- a slot's pages: their number, the bytes of each, the half and the block that page p lies in, and the counter at its first byte
abbrev pub page_count : ℕ
page_count = 32

abbrev pub page_bytes : ℕ
page_bytes = 16

unfoldable pub page_at : ℕ → List ℕ → List ℕ
page_at p m = part page_bytes p m

unfoldable pub page_half : ℕ → ℕ
page_half p = p / 16

unfoldable pub page_block : ℕ → BlockNo
page_block p = record { 0 = p / 8 }

unfoldable pub page_counter : ℕ → ℕ
page_counter p = p % 16 * 16

-- "Halves are selected by 6Ch and 6Eh, with no bytes after them before the stop, only when needed": half h, where `now` stands
unfoldable pub selecting : ℕ → ℕ → List Event
selecting now h = cond (eqb h now) [] (start ∷ byte (0x6C + 2 * h) ∷ stop ∷ [])

-- "by a write of the whole page, followed by the slot's own count of ticks": to slot k, from the counter c
unfoldable pub writing : ℕ → ℕ → List ℕ → ℕ → List Event
writing k c bytes count = start ∷ byte (0xA0 + 2 * k) ∷ byte c ∷ map byte bytes ++ stop ∷ ticks count

-- the same bytes
abbrev pub same : List ℕ → List ℕ → Bool
same = bytes_eq

-- a slot's 512 bytes as the five ticks leave them, and the image that is wanted
module _ (old image : List ℕ) where
  -- "pages that then differ"
  unfoldable pub differs : ℕ → Bool
  differs p = not (same (page_at p old) (page_at p image))

  -- and the slot as they leave it
  module _ (s : Slot) where
    -- "a page that differs lies in a protected block": page p, and one of the pages 0 to p - 1
    unfoldable pub barred : ℕ → Bool
    barred p = differs p && protects (page_block p) s

    unfoldable pub barred_before : ℕ → Bool
    barred_before zero = false
    barred_before (suc p) = barred_before p || barred p

    -- the half that stands when pages 0 to p - 1 are done
    unfoldable pub half_before : ℕ → ℕ
    half_before zero = s.half
    half_before (suc p) = cond (differs p) (page_half p) (half_before p)

    -- one page of slot k
    unfoldable pub page_events : ℕ → ℕ → List Event
    page_events k p = selecting (half_before p) (page_half p) ++ writing k (page_counter p) (page_at p image) s.length

    -- "Only pages that then differ are written, each once", in ascending order: pages 0 to p - 1
    unfoldable pub pages_before : ℕ → ℕ → List Event
    pages_before k zero = []
    pages_before k (suc p) = pages_before k p ++ cond (differs p) (page_events k p) []

-- the plan for slot k of a bench and an image, whether or not it may be carried out
unfoldable pub plan_events : ℕ → Bench → List ℕ → List Event
plan_events k x image = five_ticks ++ pages_before (bytes_at k (settled x)) image (slot_at k (settled x)) k page_count

-- "a memory, image or buffer of another length is 1"
abbrev pub buffer_bytes : ℕ
buffer_bytes = 4096

unfoldable pub wrong_lengths : List ℕ → List ℕ → List ℕ → Bool
wrong_lengths m image buffer = wrong_length m || not (eqb (length image) slot_bytes) || not (eqb (length buffer) buffer_bytes)

-- "a slot absent or above 7 is 3"; P9: "3 is given [..] by P1 for a kind 3 slot"
unfoldable pub no_such_slot : SlotNo → Bus → Bool
no_such_slot k b = ltb 7 k.0 || eqb (kind_at (kinds_of b) k) 0 || eqb (kind_at (kinds_of b) k) 3

-- "Refusal 7, exactly when a page that differs lies in a protected block", after the five ticks
unfoldable pub forbidden : ℕ → Bench → List ℕ → Bool
forbidden k x image = barred_before (bytes_at k (settled x)) image (slot_at k (settled x)) page_count

-- "write script records into a lent buffer [..] their number returned, the buffer past them unchanged"
unfoldable pub planned : List Event → List ℕ → Result ℕ Refusal × List ℕ
planned es buffer = (Ok (length es), laid es buffer)

-- "Order 1, 6, 3, 7; a refusal leaves the buffer unchanged": what the planner gives, and the buffer after it
unfoldable pub plan_of : Bus → List ℕ → SlotNo → List ℕ → List ℕ → Result ℕ Refusal × List ℕ
plan_of b m k image buffer =
    let x : Bench = record { bus = b; memory = m } in
    cond (wrong_lengths m image buffer) (Err MemoryLength, buffer)
    (cond (not (in_range b)) (Err WrongState, buffer)
    (cond (no_such_slot k b) (Err WrongSlot, buffer)
    (cond (forbidden k.0 x image) (Err ProtectedPage, buffer)
    (planned (plan_events k.0 x image) buffer))))

-- the number and the value of each result: 0 and the number of records, or the refusal's number
unfoldable pub plan_number : Result ℕ Refusal → ℕ
plan_number (Ok n) = 0
plan_number (Err r) = refusal_number r

unfoldable pub plan_value : Result ℕ Refusal → ℕ
plan_value (Ok n) = n
plan_value (Err r) = 0
