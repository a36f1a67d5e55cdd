-- Document 01, "Refusal numbers": each row, their order, and the setup.
-- Assumes nothing.
use Rattle.std.specs.Prelude.{ℕ, Bool, false, not, cond, ◌&&◌, ◌||◌, List, map, eqb, leb, ltb, ℤ, pos, negsuc, length, get_or, replicate, Result, Ok, Err}
use Rattle.std.specs.Int.Bits.{bit_and}
use Rattle.std.specs.Int.Signed.{lt_z}
use Rattle.std.specs.List.{list_all}
use Rattle.rules.specs.declared.Answer.TheVariants as answer
use Rattle.rules.specs.declared.Act.{Act}
use Rattle.rules.specs.declared.Bus.{Bus}
use Rattle.rules.specs.declared.Event.{Event}
use Rattle.rules.specs.declared.Outcome.{Outcome}
use Rattle.rules.specs.declared.Pair.{Pair}
use Rattle.rules.specs.declared.Refusal.{Refusal}
use Rattle.rules.specs.declared.Refusal.TheVariants.{MemoryLength, UnknownKind, WrongSlot, WrongValue, WrongSetup, WrongState}
use Rattle.rules.specs.declared.Sensor.{Sensor}
use Rattle.rules.specs.declared.Slot.{Slot}
use Rattle.rules.specs.declared.SlotNo.{SlotNo}
use Rattle.rules.specs.Modelled.{slot_count, memory_bytes, sensing, older}
use Rattle.rules.specs.Events.{act_of}
use Rattle.rules.specs.Fresh.{setup_slot, absent_slot}
use Rattle.rules.specs.Sensor.{configuration_bits, limit_bits, resolution_bits, timeout_bits}
use Rattle.rules.specs.Pin.{can_pend}

-- "1 | the memory is not 4,096 bytes long"
unfoldable pub wrong_length : List ℕ → Bool
wrong_length m = not (eqb (length m) memory_bytes)

-- "2 | the kind is not 1..9"; P9: "Refusal 2 now begins above 10"
unfoldable pub unknown_kind : Event → Bool
unknown_kind e = ltb e.kind 1 || ltb 10 e.kind

-- the kinds of the bus's slots, and the kind of slot n; 0, absent, where there is no such slot
unfoldable pub kinds_of : Bus → List ℕ
kinds_of b = map (λ (s : Slot). s.kind) b.slots

unfoldable pub kind_at : List ℕ → SlotNo → ℕ
kind_at kinds n = get_or kinds n.0 0

-- "3 | kind 7 or 9: slot above 7 or absent; kind 9: slot without sensor", by the kind of the slot that the event names; P9: "3 is given for kind
-- 10 on a slot not of kind 3"
unfoldable pub wrong_slot : ℕ → Event → Bool
wrong_slot kind e =
    (eqb e.kind 7 || eqb e.kind 9 || eqb e.kind 10) && (ltb 7 e.slot.0 || eqb kind 0)
    || eqb e.kind 9 && not (eqb kind 2)
    || eqb e.kind 10 && not (eqb kind 3)

-- "4 | the value is outside its range": kind 2 0..255, kinds 3 and 7 0 or 1, kind 9 -640..2000; P3: "The power cycle's value is from now on 0 to
-- 16, and outside that refusal 4"; P9: "the pin's value is 0 or 1, else 4"
unfoldable pub outside : ℤ → ℤ → ℤ → Bool
outside least most v = lt_z v least || lt_z most v

unfoldable pub wrong_value : Event → Bool
wrong_value e =
    cond (eqb e.kind 2) (outside (pos 0) (pos 255) e.value)
    (cond (eqb e.kind 3 || eqb e.kind 7 || eqb e.kind 10) (outside (pos 0) (pos 1) e.value)
    (cond (eqb e.kind 8) (outside (pos 0) (pos 16) e.value)
    (cond (eqb e.kind 9) (outside (negsuc 639) (pos 2000) e.value)
    false)))

-- "5 | setup: a slot kind not 0..2, or a present slot's length not 1..5"; P9: "5 admits kind 3"
unfoldable pub good_length : ℕ → Bool
good_length l = leb 1 l && leb l 5

unfoldable pub good_pair : Pair → Bool
good_pair p = leb p.kind 3 && (eqb p.kind 0 || good_length p.length)

-- "6 | a number in the handed-in state is outside the range fixed here for it": "kind"
unfoldable pub kind_in_range : Slot → Bool
kind_in_range s = leb s.kind 3

-- "length": 1 to 5, of an absent slot 0
unfoldable pub length_in_range : Slot → Bool
length_in_range s = cond (eqb s.kind 0) (eqb s.length 0) (good_length s.length)

-- "register bits not kept"
unfoldable pub kept_in : ℕ → ℕ → Bool
kept_in bits v = eqb (bit_and v bits) v

-- "pointer 00h..09h, register bits not kept (in 05h all 16 are in range)"
unfoldable pub sensor_in_range : Sensor → Bool
sensor_in_range x =
    leb x.pointer 0x09 && kept_in configuration_bits x.configuration && kept_in limit_bits x.high && kept_in limit_bits x.low
    && kept_in limit_bits x.critical
    && kept_in resolution_bits x.resolution
    && kept_in timeout_bits x.timeout

-- P8: "a 1 where no change can be pending falls under 6", in a slot without sensor too
unfoldable pub pending_in_range : Slot → Bool
pending_in_range s = not s.sensor.pending || sensing s && can_pend s.sensor.configuration

-- P9: "half always 0"; "Protection is bit 0 alone, set if permanent"; "another half or bit falls under 6"
unfoldable pub older_in_range : Slot → Bool
older_in_range s =
    not (older s)
    || eqb s.half 0 && not (get_or s.protection 1 false) && not (get_or s.protection 2 false) && not (get_or s.protection 3 false)
    && (not s.old.permanent || get_or s.protection 0 false)

-- "ticks left 0 to length, half 0 or 1, counter 0..255, page offset 0..15"
unfoldable pub slot_in_range : Slot → Bool
slot_in_range s =
    kind_in_range s && length_in_range s && leb s.left s.length && leb s.half 1 && leb s.counter 255 && leb s.place 15
    && sensor_in_range s.sensor
    && pending_in_range s
    && older_in_range s

unfoldable pub in_range : Bus → Bool
in_range b = list_all slot_in_range b.slots

-- what an event is taken for: an act, or why it is refused
abbrev pub Ruling : Type 0
Ruling = Result Act Refusal

-- rows 2, 3 and 4: they go by the event and the kind of the slot that it names
unfoldable pub ruled_for : ℕ → Event → Ruling
ruled_for kind e =
    cond (unknown_kind e) (Err UnknownKind)
    (cond (wrong_slot kind e) (Err WrongSlot)
    (cond (wrong_value e) (Err WrongValue)
    (Ok (act_of e))))

-- "Refusals 2, 3 and 4 depend on the event and the setup alone": on the kinds, which no event changes
unfoldable pub ruled_by : List ℕ → Event → Ruling
ruled_by kinds e = ruled_for (kind_at kinds e.slot) e

-- "Order: 1, 6, 2, 3, 4."
unfoldable pub ruling : Bus → List ℕ → Event → Ruling
ruling b m e =
    cond (wrong_length m) (Err MemoryLength)
    (cond (not (in_range b)) (Err WrongState)
    (ruled_by (kinds_of b) e))

-- "a refused setup yields a bus of eight absent slots"
unfoldable pub empty_bus : Bus
empty_bus = record { slots = replicate slot_count absent_slot }

unfoldable pub setup_of : List Pair → Outcome
setup_of ps =
    cond (list_all good_pair ps) (record { bus = record { slots = map setup_slot ps }; answer = answer.Nothing })
    (record { bus = empty_bus; answer = answer.Refused WrongSetup })
