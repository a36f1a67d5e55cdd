-- Document 01's tables of events, refusals, setups and ranges, row by row: each number with its ends and the first value past them. Each theorem
-- computes.
-- Assumes nothing.
use Prim.Native.Nat.{ℕ, ◌*◌}
use mathlib.Core.Path.{◌≡◌, refl}
use mathlib.Core.Bool.{Bool, true, false}
use mathlib.Core.List.{List, [], ◌∷◌, ◌++◌, map}
use lib.Dec.{eqb}
use lib.IntN.{ℤ, pos, negsuc}
use lib.ListN.{set, replicate}
use Rattle.rules.specs.declared.Act.TheVariants.{Start, Byte, Read, Stop, Timeout, Tick, Power, Apply}
use Rattle.rules.specs.declared.Applied.TheVariants.{Voltage, Temperature, WriteProtect}
use Rattle.rules.specs.declared.Address.{Address}
use Rattle.rules.specs.declared.Answer.{Answer}
use Rattle.rules.specs.declared.Answer.TheVariants as answer
use Rattle.rules.specs.declared.Bus.{Bus}
use Rattle.rules.specs.declared.Event.{Event}
use Rattle.rules.specs.declared.Pair.{Pair}
use Rattle.rules.specs.declared.Refusal.TheVariants.{MemoryLength, UnknownKind, WrongSlot, WrongValue, WrongSetup, WrongState, ProtectedPage, Busy, TooShort, WrongForm}
use Rattle.rules.specs.declared.Sensor.{Sensor}
use Rattle.rules.specs.declared.Slot.{Slot}
use Rattle.rules.specs.declared.SlotNo.{SlotNo}
use Rattle.rules.specs.declared.Cut.{Cut}
use Rattle.rules.specs.Modelled.{slot_count, memory_bytes, slot_bytes, absent, sensing, address_of, block_of, page_of, older, bytes_of}
use Rattle.rules.specs.Open.{open-all}
use Rattle.rules.specs.Fields.{protecting, to_come, with_old, at_counter, in_half, with_left, placed, with_sensor, pointing, with_configuration, with_high, with_low, with_critical, with_temperature, with_resolution, with_timeout, with_pending, with_word}
use Rattle.rules.specs.Events.{act_of, refusal_number, letter_of, value_of}
use Rattle.rules.specs.Fresh.{fresh_sensor, fresh_slot, setup_slot, absent_slot}
use Rattle.rules.specs.Refusals.{unknown_kind, wrong_slot, wrong_value, wrong_length, good_pair, slot_in_range}
use Rattle.rules.specs.Runs.{answered}

abbrev event : ℕ → ℕ → ℤ → Event
event kind slot value = record { kind = kind; slot = record { 0 = slot }; value = value }

abbrev slot : ℕ → SlotNo
slot n = record { 0 = n }

abbrev cut : ℕ → Cut
cut n = record { 0 = n }

-- "What is modelled": eight slots of 512 bytes are the memory; kinds; address, block and page
pub sizes : slot_count * slot_bytes ≡ memory_bytes
sizes = refl

abbrev kind_of : ℕ → Bool × Bool × Bool × ℕ
kind_of k = (absent (fresh_slot k 1), sensing (fresh_slot k 1), older (fresh_slot k 1), bytes_of k)

pub kinds : map kind_of (0 ∷ 1 ∷ 2 ∷ 3 ∷ []) ≡ (true, false, false, 512) ∷ (false, false, false, 512) ∷ (false, true, false, 512) ∷ (false, false, true, 256) ∷ []
unfolding open-all
kinds = refl

-- half, counter, and the address, block and page that they give
abbrev place_of : ℕ × ℕ → ℕ × ℕ × ℕ
place_of p = let a : Address = address_of (in_half p.0 (at_counter p.1 absent_slot)) in (a.0, (block_of a).0, (page_of a).0)

pub addresses : map place_of ((0, 0) ∷ (0, 15) ∷ (0, 16) ∷ (0, 127) ∷ (0, 128) ∷ (0, 255) ∷ (1, 0) ∷ (1, 127) ∷ (1, 128) ∷ (1, 255) ∷ [])
    ≡ (0, 0, 0) ∷ (15, 0, 0) ∷ (16, 0, 16) ∷ (127, 0, 112) ∷ (128, 1, 128) ∷ (255, 1, 240) ∷ (256, 2, 256) ∷ (383, 2, 368) ∷ (384, 3, 384) ∷ (511, 3, 496) ∷ []
unfolding open-all
addresses = refl

-- "Events": each kind, with its slot and value where it has them, and with rubbish in its empty cells
pub events : map act_of
    (event 1 9 (negsuc 4) ∷ event 2 9 (pos 0) ∷ event 2 9 (pos 255) ∷ event 3 9 (pos 0) ∷ event 3 9 (pos 1) ∷ event 4 9 (negsuc 4) ∷ event 5 9 (negsuc 4) ∷ event 6 9 (negsuc 4)
    ∷ event 7 3 (pos 0) ∷ event 7 4 (pos 1) ∷ event 8 9 (pos 0) ∷ event 8 9 (pos 16) ∷ event 9 5 (negsuc 639) ∷ event 9 6 (pos 2000)
    ∷ event 10 7 (pos 0) ∷ event 10 0 (pos 1) ∷ [])
    ≡ Start ∷ Byte 0 ∷ Byte 255 ∷ Read false ∷ Read true ∷ Stop ∷ Timeout ∷ Tick
    ∷ Apply (slot 3) (Voltage false) ∷ Apply (slot 4) (Voltage true) ∷ Power (cut 0) ∷ Power (cut 16)
    ∷ Apply (slot 5) (Temperature (negsuc 639)) ∷ Apply (slot 6) (Temperature (pos 2000)) ∷ Apply (slot 7) (WriteProtect false) ∷ Apply (slot 0) (WriteProtect true) ∷ []
unfolding open-all
events = refl

-- "Refusal numbers" and the letters of the script, with their values
pub numbers : map refusal_number (MemoryLength ∷ UnknownKind ∷ WrongSlot ∷ WrongValue ∷ WrongSetup ∷ WrongState ∷ ProtectedPage ∷ Busy ∷ TooShort ∷ WrongForm ∷ []) ≡ 1 ∷ 2 ∷ 3 ∷ 4 ∷ 5 ∷ 6 ∷ 7 ∷ 8 ∷ 9 ∷ 10 ∷ []
unfolding refusal_number
numbers = refl

abbrev said : Answer → ℕ × ℕ
said a = (letter_of a, value_of a)

pub letters : map said (answer.Nothing ∷ answer.Ack ∷ answer.Nack ∷ answer.Data 0x5A ∷ answer.Refused UnknownKind ∷ [])
    ≡ (0x2D, 0) ∷ (0x41, 0) ∷ (0x4E, 0) ∷ (0x44, 0x5A) ∷ (0x52, 2) ∷ []
unfolding letter_of value_of refusal_number
letters = refl

-- row 1: "the memory is not 4,096 bytes long"
pub row-1 : map (λ n. wrong_length (replicate n 0xFF)) (0 ∷ 4095 ∷ 4096 ∷ 4097 ∷ []) ≡ true ∷ true ∷ false ∷ true ∷ []
unfolding open-all
row-1 = refl

-- row 2: "the kind is not 1..9"; P9: "now begins above 10"
pub row-2 : map (λ k. unknown_kind (event k 0 (pos 0))) (0 ∷ 1 ∷ 2 ∷ 3 ∷ 4 ∷ 5 ∷ 6 ∷ 7 ∷ 8 ∷ 9 ∷ 10 ∷ 11 ∷ 255 ∷ [])
    ≡ true ∷ false ∷ false ∷ false ∷ false ∷ false ∷ false ∷ false ∷ false ∷ false ∷ false ∷ true ∷ true ∷ []
unfolding open-all
row-2 = refl

-- row 3: "kind 7 or 9: slot above 7 or absent; kind 9: slot without sensor": the named slot's kind, the event's kind, its slot
abbrev third_row : ℕ × ℕ × ℕ → Bool
third_row p = wrong_slot p.0 (event p.1 p.2 (pos 0))

pub row-3 : map third_row
    ((0, 7, 0) ∷ (1, 7, 0) ∷ (2, 7, 0) ∷ (2, 7, 7) ∷ (2, 7, 8) ∷ (0, 9, 0) ∷ (1, 9, 0) ∷ (2, 9, 0) ∷ (2, 9, 7) ∷ (2, 9, 8) ∷ (2, 9, 255) ∷ [])
    ≡ true ∷ false ∷ false ∷ false ∷ true ∷ true ∷ true ∷ false ∷ false ∷ true ∷ true ∷ []
unfolding open-all
row-3 = refl

-- P9: kind 7 on an older module is taken, kind 9 is not; "3 is given for kind 10 on a slot not of kind 3"
pub row-3-older : map third_row
    ((3, 7, 0) ∷ (3, 9, 0) ∷ (0, 10, 0) ∷ (1, 10, 0) ∷ (2, 10, 0) ∷ (3, 10, 0) ∷ (3, 10, 7) ∷ (3, 10, 8) ∷ [])
    ≡ false ∷ true ∷ true ∷ true ∷ true ∷ false ∷ false ∷ true ∷ []
unfolding open-all
row-3-older = refl

pub row-3-others : map (λ k. wrong_slot 0 (event k 255 (pos 0))) (0 ∷ 1 ∷ 2 ∷ 3 ∷ 4 ∷ 5 ∷ 6 ∷ 8 ∷ 11 ∷ []) ≡ replicate 9 false
unfolding open-all
row-3-others = refl

-- row 4: "the value is outside its range", by the event's kind and its value
abbrev fourth_row : ℕ × ℤ → Bool
fourth_row p = wrong_value (event p.0 0 p.1)

pub row-4 : map fourth_row
    ((2, negsuc 0) ∷ (2, pos 0) ∷ (2, pos 255) ∷ (2, pos 256) ∷ (3, negsuc 0) ∷ (3, pos 0) ∷ (3, pos 1) ∷ (3, pos 2) ∷ (7, negsuc 0) ∷ (7, pos 0) ∷ (7, pos 1) ∷ (7, pos 2)
    ∷ (8, negsuc 0) ∷ (8, pos 0) ∷ (8, pos 16) ∷ (8, pos 17) ∷ (9, negsuc 640) ∷ (9, negsuc 639) ∷ (9, pos 2000) ∷ (9, pos 2001) ∷ [])
    ≡ true ∷ false ∷ false ∷ true ∷ true ∷ false ∷ false ∷ true ∷ true ∷ false ∷ false ∷ true
    ∷ true ∷ false ∷ false ∷ true ∷ true ∷ false ∷ false ∷ true ∷ []
unfolding open-all
row-4 = refl

-- P9: "the pin's value is 0 or 1, else 4"
pub row-4-older : map fourth_row ((10, negsuc 0) ∷ (10, pos 0) ∷ (10, pos 1) ∷ (10, pos 2) ∷ []) ≡ true ∷ false ∷ false ∷ true ∷ []
unfolding open-all
row-4-older = refl

pub row-4-others : map (λ k. wrong_value (event k 0 (negsuc 32767))) (1 ∷ 4 ∷ 5 ∷ 6 ∷ []) ≡ replicate 4 false
unfolding open-all
row-4-others = refl

-- "Order: 1, 6, 2, 3, 4.": a bus with a sensor in slot 0 and a memory in slot 1, as it is and with a half of 2 in slot 7; memories of 4,096 and of
-- 4,095 bytes; an event that meets all rows from 2 on, and those that meet fewer
abbrev good : Bus
good = record { slots = fresh_slot 2 1 ∷ fresh_slot 1 1 ∷ replicate 6 absent_slot }

abbrev odd : Bus
odd = record { slots = set good.slots 7 (in_half 2 absent_slot) }

abbrev answered_as : Bus → ℕ → Event → ℕ × ℕ
answered_as b n e = said (answered e (record { bus = b; memory = replicate n 0xFF }))

pub order :
    answered_as odd 4095 (event 0 0 (pos 0)) ∷ answered_as odd 4096 (event 0 0 (pos 0)) ∷ answered_as good 4095 (event 0 0 (pos 0)) ∷ answered_as good 4096 (event 11 9 (pos 9999))
    ∷ answered_as good 4096 (event 7 8 (pos 2))
    ∷ answered_as good 4096 (event 9 1 (pos 2001))
    ∷ answered_as good 4096 (event 10 1 (pos 2))
    ∷ answered_as good 4096 (event 7 1 (pos 2))
    ∷ answered_as good 4096 (event 9 0 (pos 2001))
    ∷ answered_as good 4096 (event 2 9 (pos 256))
    ∷ answered_as good 4096 (event 2 9 (pos 255))
    ∷ []
    ≡ (0x52, 1) ∷ (0x52, 6) ∷ (0x52, 1) ∷ (0x52, 2) ∷ (0x52, 3) ∷ (0x52, 3) ∷ (0x52, 3) ∷ (0x52, 4) ∷ (0x52, 4) ∷ (0x52, 4) ∷ (0x4E, 0) ∷ []
unfolding open-all letter_of value_of refusal_number
order = refl

-- row 5: "a slot kind not 0..2, or a present slot's length not 1..5": kind and length; P9: "5 admits kind 3"
abbrev pair : ℕ × ℕ → Pair
pair p = record { kind = p.0; length = p.1 }

pub row-5 : map (λ p. good_pair (pair p)) ((0, 0) ∷ (0, 6) ∷ (0, 255) ∷ (1, 0) ∷ (1, 1) ∷ (1, 5) ∷ (1, 6) ∷ (2, 0) ∷ (2, 1) ∷ (2, 5) ∷ (2, 6)
    ∷ (3, 0) ∷ (3, 1) ∷ (3, 5) ∷ (3, 6) ∷ (4, 1) ∷ (255, 1) ∷ [])
    ≡ true ∷ true ∷ true ∷ false ∷ true ∷ true ∷ false ∷ false ∷ true ∷ true ∷ false ∷ false ∷ true ∷ true ∷ false ∷ false ∷ false ∷ []
unfolding open-all
row-5 = refl

-- "the length of an absent slot is ignored and kept as 0"
pub lengths-kept : map (λ p. (setup_slot (pair p)).length) ((0, 4) ∷ (1, 4) ∷ (2, 5) ∷ []) ≡ 0 ∷ 4 ∷ 5 ∷ []
unfolding open-all
lengths-kept = refl

-- row 6, number by number: the slot with that number in it is in range
abbrev present : Slot
present = fresh_slot 2 3

abbrev sensed : (ℕ → Sensor → Sensor) → ℕ → Slot
sensed f n = with_sensor (f n fresh_sensor) present

pub row-6-kind : map (λ (p : ℕ × ℕ). slot_in_range (fresh_slot p.0 p.1)) ((0, 0) ∷ (1, 1) ∷ (2, 1) ∷ (3, 1) ∷ (4, 1) ∷ (255, 1) ∷ []) ≡ true ∷ true ∷ true ∷ true ∷ false ∷ false ∷ []
unfolding open-all
row-6-kind = refl

pub row-6-length : map (λ (p : ℕ × ℕ). slot_in_range (fresh_slot p.0 p.1)) ((1, 0) ∷ (1, 1) ∷ (2, 5) ∷ (2, 6) ∷ (0, 0) ∷ (0, 1) ∷ []) ≡ false ∷ true ∷ true ∷ false ∷ true ∷ false ∷ []
unfolding open-all
row-6-length = refl

pub row-6-left : map (λ n. slot_in_range (with_left n present)) (0 ∷ 1 ∷ 3 ∷ 4 ∷ 5 ∷ []) ≡ true ∷ true ∷ true ∷ false ∷ false ∷ []
unfolding open-all
row-6-left = refl

pub row-6-half : map (λ n. slot_in_range (in_half n present)) (0 ∷ 1 ∷ 2 ∷ []) ≡ true ∷ true ∷ false ∷ []
unfolding open-all
row-6-half = refl

pub row-6-counter : map (λ n. slot_in_range (at_counter n present)) (0 ∷ 255 ∷ 256 ∷ []) ≡ true ∷ true ∷ false ∷ []
unfolding open-all
row-6-counter = refl

pub row-6-offset : map (λ n. slot_in_range (placed n present)) (0 ∷ 15 ∷ 16 ∷ []) ≡ true ∷ true ∷ false ∷ []
unfolding open-all
row-6-offset = refl

pub row-6-pointer : map (λ n. slot_in_range (sensed pointing n)) (0x00 ∷ 0x09 ∷ 0x0A ∷ []) ≡ true ∷ true ∷ false ∷ []
unfolding open-all
row-6-pointer = refl

-- registers: all kept bits, and each bit that is not kept
pub row-6-configuration : map (λ n. slot_in_range (sensed with_configuration n)) (0x07CF ∷ 0x0010 ∷ 0x0020 ∷ 0x0800 ∷ 0x1000 ∷ 0x2000 ∷ 0x4000 ∷ 0x8000 ∷ []) ≡ true ∷ replicate 7 false
unfolding open-all
row-6-configuration = refl

abbrev limit_tries : List ℕ
limit_tries = 0x1FFC ∷ 0x0001 ∷ 0x0002 ∷ 0x2000 ∷ 0x4000 ∷ 0x8000 ∷ []

pub row-6-limits : map (λ (f : ℕ → Sensor → Sensor). map (λ n. slot_in_range (sensed f n)) limit_tries) (with_high ∷ with_low ∷ with_critical ∷ []) ≡ replicate 3 (true ∷ replicate 5 false)
unfolding open-all
row-6-limits = refl

-- "(in 05h all 16 are in range)"
pub row-6-temperature : slot_in_range (sensed with_temperature 0xFFFF) ≡ true
unfolding open-all
row-6-temperature = refl

pub row-6-resolution : map (λ n. slot_in_range (sensed with_resolution n)) (0x03 ∷ 0x04 ∷ 0x08 ∷ 0x80 ∷ []) ≡ true ∷ false ∷ false ∷ false ∷ []
unfolding open-all
row-6-resolution = refl

pub row-6-timeout : map (λ n. slot_in_range (sensed with_timeout n)) (0x01 ∷ 0x02 ∷ 0x80 ∷ []) ≡ true ∷ false ∷ false ∷ []
unfolding open-all
row-6-timeout = refl

-- P8, "a 1 where no change can be pending falls under 6": with each of bits 3:0, in a slot with a sensor; then in one without, and in an absent one
pub row-6-pending : map (λ c. slot_in_range (with_sensor (with_pending true (with_configuration c fresh_sensor)) present)) (0x0 ∷ 0x1 ∷ 0x2 ∷ 0x3 ∷ 0x4 ∷ 0x5 ∷ 0x6 ∷ 0x7 ∷ 0x8 ∷ 0x9 ∷ 0xA ∷ 0xB ∷ 0xC ∷ 0xD ∷ 0xE ∷ 0xF ∷ [])
    ≡ replicate 9 false ++ true ∷ false ∷ true ∷ replicate 4 false
unfolding open-all
row-6-pending = refl

pub row-6-pinless : map (λ (p : ℕ × ℕ). slot_in_range (with_sensor (with_pending true (with_configuration 0x9 fresh_sensor)) (fresh_slot p.0 p.1))) ((2, 3) ∷ (1, 3) ∷ (0, 0) ∷ []) ≡ true ∷ false ∷ false ∷ []
unfolding open-all
row-6-pinless = refl

-- P9, kind 3: "half always 0"; "Protection is bit 0 alone, set if permanent": half, protection, permanent. In another kind "no cause"; and what is to
-- come, and the pin, have no range.
abbrev old_slot : ℕ → ℕ → List Bool → Bool → Slot
old_slot kind half p l = in_half half (protecting p (with_old (record { permanent = l; lasting = false; pin = false }) (fresh_slot kind 3)))

abbrev bits : ℕ → List Bool
bits n = eqb n 0 ∷ eqb n 1 ∷ eqb n 2 ∷ eqb n 3 ∷ []

pub row-6-older : map (λ (p : ℕ × ℕ × Bool). slot_in_range (old_slot 3 p.0 (bits p.1) p.2))
    ((0, 4, false) ∷ (0, 0, false) ∷ (0, 0, true) ∷ (1, 0, false) ∷ (0, 1, false) ∷ (0, 2, false) ∷ (0, 3, false) ∷ (0, 4, true) ∷ [])
    ≡ true ∷ true ∷ true ∷ false ∷ false ∷ false ∷ false ∷ false ∷ []
unfolding open-all
row-6-older = refl

pub row-6-newer : map (λ k. slot_in_range (old_slot 1 1 (bits k) true)) (0 ∷ 1 ∷ 2 ∷ 3 ∷ 4 ∷ []) ≡ replicate 5 true
unfolding open-all
row-6-newer = refl

pub row-6-to-come : slot_in_range (to_come (replicate 4 true) true (with_old (record { permanent = false; lasting = true; pin = true }) (fresh_slot 3 3))) ≡ true
unfolding open-all
row-6-to-come = refl

-- "adds no other cause": the word has no range
pub row-6-word : slot_in_range (sensed with_word 0xFFFF) ≡ true
unfolding open-all
row-6-word = refl
