-- A form in full, byte by byte, and what is refused of it: a bench with a memory in slot 0 and a memory with sensor in slot 2, without a pending change, so
-- as P5 has it; P8's field 5 with three sensors; P9's field 6 with three older slots, and field 5 before it; and the longest form.
-- Assumes nothing.
use Prim.Native.Nat.{ℕ, ◌+◌, ◌/◌, ◌%◌}
use mathlib.Core.Path.{◌≡◌, refl}
use mathlib.Core.Bool.{Bool, true, false}
use mathlib.Core.List.{List, [], ◌∷◌, map, ◌++◌}
use lib.ListN.{take, set, replicate}
use Rattle.std.specs.Prelude.{Result, Ok, Err}
use Rattle.proof_lists.specs.Each.{map_from}
use Rattle.rules.specs.declared.Refusal.{Refusal}
use Rattle.rules.specs.declared.Answer.TheVariants as answer
use Rattle.rules.specs.declared.Bus.{Bus}
use Rattle.rules.specs.declared.Phase.TheVariants.{Control, Deaf}
use Rattle.rules.specs.declared.Refusal.TheVariants.{MemoryLength, WrongState, Busy, TooShort, WrongForm}
use Rattle.rules.specs.declared.Sensor.{Sensor}
use Rattle.rules.specs.declared.Slot.{Slot}
use Rattle.rules.specs.Modelled.{memory_bytes}
use Rattle.rules.specs.Events.{refusal_number}
use Rattle.rules.specs.Refusals.{wrong_length}
use Rattle.rules.specs.Fields.{in_phase, with_left, pointing, with_configuration, with_pending}
use Rattle.rules.specs.Fresh.{no_blocks, fresh_sensor, fresh_older, absent_slot, at_rest}
use Rattle.save_rules.specs.Form.{form_of}
use Rattle.save_rules.specs.Saving.{save_of, saved_number, saved_value}
use Rattle.save_rules.specs.Reading.{bus_in, memory_in, accepted, restore_of}
use Rattle.save_rules.specs.Open.{open-saved}

-- slot 0: length 3, half 1, counter 80h, block 1 protected, high voltage off; slot 2: length 5, blocks 0 and 2 protected, high voltage on
abbrev registers : Sensor
registers = record { pointer = 5; configuration = 0x0241; high = 0x0500; low = 0x0104; critical = 0x0640; temperature = 0xC190; resolution = 3; timeout = 1; word = 0; pending = false }

abbrev memory_one : Slot
memory_one = at_rest 1 3 1 0x80 (false ∷ true ∷ false ∷ false ∷ []) false fresh_sensor fresh_older

abbrev sample_bus : Bus
sample_bus = record { slots = memory_one ∷ absent_slot ∷ at_rest 2 5 0 0x07 (true ∷ false ∷ true ∷ false ∷ []) true registers fresh_older ∷ replicate 5 absent_slot }

-- memory: A0h, A1h, A2h in slots 0, 1 and 2
abbrev pub sample_memory : List ℕ
sample_memory = replicate 512 0xA0 ++ replicate 512 0xA1 ++ replicate 512 0xA2 ++ replicate 2560 0xFF

abbrev pub sample_form : List ℕ
sample_form =
    (0x01 ∷ 0x00 ∷ 0x10 ∷ 1 ∷ 3 ∷ 0 ∷ 0 ∷ 2 ∷ 5 ∷ replicate 10 0)
    ++ (0x02 ∷ 0x04 ∷ 0x00 ∷ []) ++ replicate 512 0xA0 ++ replicate 512 0xA2
    ++ (0x03 ∷ 0x00 ∷ 0x08 ∷ 0x02 ∷ 1 ∷ 0x80 ∷ 0 ∷ 0x05 ∷ 0 ∷ 0x07 ∷ 1 ∷ [])
    ++ (0x04 ∷ 0x00 ∷ 0x0F ∷ 0x05 ∷ 0x02 ∷ 0x41 ∷ 0x05 ∷ 0x00 ∷ 0x01 ∷ 0x04 ∷ 0x06 ∷ 0x40 ∷ 0xC1 ∷ 0x90 ∷ 0x00 ∷ 0x03 ∷ 0x00 ∷ 0x01 ∷ [])

-- any other memory, to read into
abbrev pub blank : List ℕ
blank = replicate memory_bytes 0

-- what it is saved as, bytes past the form staying; that this is accepted; and what it restores to, bytes of absent slots staying
pub record Sample : Type 0 where
  pub form : form_of sample_bus sample_memory ≡ sample_form
  pub saved : save_of sample_bus sample_memory (replicate 1080 0xEE) ≡ (Ok 1075, sample_form ++ replicate 5 0xEE)
  pub accepts : accepted sample_form blank ≡ true
  pub bus : bus_in sample_form ≡ sample_bus
  pub memory : memory_in sample_form blank ≡ replicate 512 0xA0 ++ replicate 512 0 ++ replicate 512 0xA2 ++ replicate 2560 0

pub sample : Sample
unfolding open-saved
sample = record { form = refl; saved = refl; accepts = refl; bus = refl; memory = refl }

-- P8's field 5: three sensors, in slots 2, 5 and 7, whose pins are enabled in interrupt mode (register 01h is 0249h); a change is pending in the first and in
-- the last. "tag 5, a byte for each sensor, 1 if a change is pending": all before it is as it is for the same bench with nothing pending, which has no such
-- field ("present only when one is 1") and is read as it stands.
abbrev sensing : Bool → Slot
sensing on = at_rest 2 5 0 0x07 (true ∷ false ∷ true ∷ false ∷ []) true (with_pending on (with_configuration 0x0249 registers)) fresh_older

abbrev pub three_bus : Bool → Bool → Bool → Bus
three_bus p q r = record { slots = memory_one ∷ absent_slot ∷ sensing p ∷ absent_slot ∷ absent_slot ∷ sensing q ∷ absent_slot ∷ sensing r ∷ [] }

abbrev of_three : List ℕ → List ℕ
of_three bs = bs ++ bs ++ bs

abbrev pub three_form : List ℕ
three_form =
    (0x01 ∷ 0x00 ∷ 0x10 ∷ 1 ∷ 3 ∷ 0 ∷ 0 ∷ 2 ∷ 5 ∷ 0 ∷ 0 ∷ 0 ∷ 0 ∷ 2 ∷ 5 ∷ 0 ∷ 0 ∷ 2 ∷ 5 ∷ [])
    ++ (0x02 ∷ 0x08 ∷ 0x00 ∷ []) ++ replicate 512 0xA0 ++ replicate 512 0xA2 ++ replicate 1024 0xFF
    ++ (0x03 ∷ 0x00 ∷ 0x10 ∷ 0x02 ∷ 1 ∷ 0x80 ∷ 0 ∷ []) ++ of_three (0x05 ∷ 0 ∷ 0x07 ∷ 1 ∷ [])
    ++ (0x04 ∷ 0x00 ∷ 0x2D ∷ []) ++ of_three (0x05 ∷ 0x02 ∷ 0x49 ∷ 0x05 ∷ 0x00 ∷ 0x01 ∷ 0x04 ∷ 0x06 ∷ 0x40 ∷ 0xC1 ∷ 0x90 ∷ 0x00 ∷ 0x03 ∷ 0x00 ∷ 0x01 ∷ [])

pub record Three : Type 0 where
  pub before : form_of (three_bus false false false) sample_memory ≡ three_form
  pub form : form_of (three_bus true false true) sample_memory ≡ three_form ++ 0x05 ∷ 0x00 ∷ 0x03 ∷ 1 ∷ 0 ∷ 1 ∷ []
  pub bus-before : bus_in three_form ≡ three_bus false false false
  pub bus : bus_in (three_form ++ 0x05 ∷ 0x00 ∷ 0x03 ∷ 1 ∷ 0 ∷ 1 ∷ []) ≡ three_bus true false true
  pub other : bus_in (three_form ++ 0x05 ∷ 0x00 ∷ 0x03 ∷ 0 ∷ 1 ∷ 0 ∷ []) ≡ three_bus false true false

pub three : Three
unfolding open-saved
three = record { before = refl; form = refl; bus-before = refl; bus = refl; other = refl }

-- P9: three older slots, 0, 6 and 7: the first protected for ever, the last with its write-protect pin on; and a sensor in slot 1, with a change pending or
-- not. "256 bytes (so many in tag 2)"; "tag 6, a byte for each such slot (bit 0 permanent, bit 1 pin)", behind field 5 if that is there.
abbrev older_slot : ℕ → Bool → Bool → Slot
older_slot counter p w = at_rest 3 4 0 counter (p ∷ false ∷ false ∷ false ∷ []) false fresh_sensor (record { permanent = p; lasting = false; pin = w })

abbrev pub older_bus : Bool → Bool → Bool → Bus
older_bus on p w = record { slots = older_slot 0x10 p false ∷ sensing on ∷ replicate 4 absent_slot ++ older_slot 0x20 false false ∷ older_slot 0x30 false w ∷ [] }

-- memory: in slots 0, 6 and 7 B0h, C0h, D0h below and B1h, C1h, D1h above, in slot 1 A1h
abbrev halves : ℕ → ℕ → List ℕ
halves a b = replicate 256 a ++ replicate 256 b

abbrev pub older_memory : List ℕ
older_memory = halves 0xB0 0xB1 ++ replicate 512 0xA1 ++ replicate 2048 0xFF ++ halves 0xC0 0xC1 ++ halves 0xD0 0xD1

abbrev pub older_form : ℕ → List ℕ
older_form p =
    (0x01 ∷ 0x00 ∷ 0x10 ∷ 3 ∷ 4 ∷ 2 ∷ 5 ∷ []) ++ replicate 8 0 ++ (3 ∷ 4 ∷ 3 ∷ 4 ∷ [])
    ++ (0x02 ∷ 0x05 ∷ 0x00 ∷ []) ++ replicate 256 0xB0 ++ replicate 512 0xA1 ++ replicate 256 0xC0 ++ replicate 256 0xD0
    ++ (0x03 ∷ 0x00 ∷ 0x10 ∷ p ∷ 0 ∷ 0x10 ∷ 0 ∷ 0x05 ∷ 0 ∷ 0x07 ∷ 1 ∷ 0x00 ∷ 0 ∷ 0x20 ∷ 0 ∷ 0x00 ∷ 0 ∷ 0x30 ∷ 0 ∷ [])
    ++ (0x04 ∷ 0x00 ∷ 0x0F ∷ 0x05 ∷ 0x02 ∷ 0x49 ∷ 0x05 ∷ 0x00 ∷ 0x01 ∷ 0x04 ∷ 0x06 ∷ 0x40 ∷ 0xC1 ∷ 0x90 ∷ 0x00 ∷ 0x03 ∷ 0x00 ∷ 0x01 ∷ [])

abbrev pub five-of-one : List ℕ
five-of-one = 0x05 ∷ 0x00 ∷ 0x01 ∷ 1 ∷ []

abbrev pub six-of-three : List ℕ
six-of-three = 0x06 ∷ 0x00 ∷ 0x03 ∷ 0x01 ∷ 0x00 ∷ 0x02 ∷ []

pub record Olders : Type 0 where
  pub neither : form_of (older_bus false false false) older_memory ≡ older_form 0
  pub both : form_of (older_bus true true true) older_memory ≡ older_form 1 ++ five-of-one ++ six-of-three
  pub bus-both : bus_in (older_form 1 ++ five-of-one ++ six-of-three) ≡ older_bus true true true

pub olders : Olders
unfolding open-saved
olders = record { neither = refl; both = refl; bus-both = refl }

-- Saving refused: slot 1, which is present, in a write cycle or in an exchange; with these a wrong memory and a number out of range come first; and a buffer
-- that is one byte short comes last. An absent slot may be in any phase.
abbrev with_slots : Slot → Slot → Bus
with_slots s r = record { slots = s ∷ r ∷ replicate 6 absent_slot }

pub record Savings : Type 0 where
  pub in-cycle : save_of (with_slots absent_slot (with_left 1 memory_one)) blank [] ≡ (Err Busy, [])
  pub in-exchange : save_of (with_slots absent_slot (in_phase Control memory_one)) blank [] ≡ (Err Busy, [])
  pub deaf : save_of (with_slots absent_slot (in_phase Deaf memory_one)) blank [] ≡ (Err Busy, [])
  pub wrong-memory : save_of (with_slots absent_slot (with_left 9 memory_one)) [] [] ≡ (Err MemoryLength, [])
  pub wrong-state : save_of (with_slots absent_slot (with_left 9 memory_one)) blank [] ≡ (Err WrongState, [])
  pub short : save_of (with_slots (in_phase Deaf absent_slot) memory_one) blank (replicate 543 0xEE) ≡ (Err TooShort, replicate 543 0xEE)
  pub long-enough : (save_of (with_slots (in_phase Deaf absent_slot) memory_one) blank (replicate 544 0xEE)).0 ≡ Ok 544
  pub none : (save_of (with_slots absent_slot absent_slot) blank (replicate 28 0xEE)).0 ≡ Ok 28

pub savings : Savings
unfolding open-saved
savings = record { in-cycle = refl; in-exchange = refl; deaf = refl; wrong-memory = refl; wrong-state = refl; short = refl; long-enough = refl; none = refl }

-- The form of a bench with a memory with sensor in slot 0 alone, in its fields: the setup pairs, the memory, the state, the sensor.
abbrev pairs : List ℕ
pairs = 0x01 ∷ 0x00 ∷ 0x10 ∷ 2 ∷ 5 ∷ replicate 14 0

abbrev bytes : List ℕ
bytes = 0x02 ∷ 0x02 ∷ 0x00 ∷ replicate 512 0xFF

abbrev state : List ℕ
state = 0x03 ∷ 0x00 ∷ 0x04 ∷ 0x0F ∷ 1 ∷ 0xFF ∷ 1 ∷ []

abbrev sensor : List ℕ
sensor = 0x04 ∷ 0x00 ∷ 0x0F ∷ 0x09 ∷ 0x02 ∷ 0x41 ∷ 0x05 ∷ 0x00 ∷ 0x01 ∷ 0x04 ∷ 0x06 ∷ 0x40 ∷ 0xC1 ∷ 0x90 ∷ 0x00 ∷ 0x03 ∷ 0x00 ∷ 0x01 ∷ []

-- the same sensor with its pin enabled in interrupt mode, and its field 5
abbrev pinned : List ℕ
pinned = set sensor 5 0x49

abbrev five : List ℕ
five = 0x05 ∷ 0x00 ∷ 0x01 ∷ 0x01 ∷ []

-- the form of a bench with an older slot in slot 0 alone: protected for ever, its pin on
abbrev pairs_older : List ℕ
pairs_older = set pairs 3 3

abbrev bytes_older : List ℕ
bytes_older = 0x02 ∷ 0x01 ∷ 0x00 ∷ replicate 256 0xFF

abbrev state_older : List ℕ
state_older = 0x03 ∷ 0x00 ∷ 0x04 ∷ 0x01 ∷ 0 ∷ 0xFF ∷ 1 ∷ []

abbrev six : List ℕ
six = 0x06 ∷ 0x00 ∷ 0x01 ∷ 0x03 ∷ []

-- and that of a bench without slots, whose other fields are empty
abbrev no_pairs : List ℕ
no_pairs = 0x01 ∷ 0x00 ∷ 0x10 ∷ replicate 16 0

abbrev empty : ℕ → List ℕ
empty tag = tag ∷ 0x00 ∷ 0x00 ∷ []

-- these are accepted, and nothing that differs from one of them in one of these ways
abbrev Departs : List ℕ → Type 0
Departs f = accepted f blank ≡ false

pub record Table : Type 0 where
  pub right : accepted (pairs ++ bytes ++ state ++ sensor) blank ≡ true
  pub no_slot : accepted (no_pairs ++ empty 2 ++ empty 3 ++ empty 4) blank ≡ true
  pub not-pending : accepted (pairs ++ bytes ++ state ++ pinned) blank ≡ true
  pub is-pending : accepted (pairs ++ bytes ++ state ++ pinned ++ five) blank ≡ true
  pub for-ever : accepted (pairs_older ++ bytes_older ++ state_older ++ empty 4 ++ six) blank ≡ true
  pub only-protected : accepted (pairs_older ++ bytes_older ++ state_older ++ empty 4) blank ≡ true
  pub only-pin : accepted (pairs_older ++ bytes_older ++ set state_older 3 0x00 ++ empty 4 ++ set six 3 0x02) blank ≡ true
  -- tags
  pub wrong-tag : Departs (set pairs 0 0x05 ++ bytes ++ state ++ sensor)
  pub wrong-order : Departs (no_pairs ++ empty 2 ++ empty 4 ++ empty 3)
  pub twice : Departs (no_pairs ++ empty 2 ++ empty 3 ++ empty 3 ++ empty 4)
  pub left_out : Departs (no_pairs ++ empty 2 ++ empty 3)
  -- lengths
  pub wrong-length : Departs (no_pairs ++ empty 2 ++ set (empty 3) 2 0x01 ++ empty 4)
  pub low-byte-first : Departs (pairs ++ set (set bytes 1 0x00) 2 0x02 ++ state ++ sensor)
  pub byte-behind : Departs (pairs ++ bytes ++ state ++ sensor ++ 0x00 ∷ [])
  pub byte-missing : Departs (pairs ++ bytes ++ state ++ take 17 sensor)
  pub nothing : Departs []
  -- the setup pairs: an absent slot's length, a kind and a present slot's length out of range
  pub absent-length : Departs (set pairs 6 0x01 ++ bytes ++ state ++ sensor)
  pub unknown-kind : Departs (set pairs 3 0x04 ++ bytes ++ state ++ empty 4)
  pub long : Departs (set pairs 4 0x06 ++ bytes ++ state ++ sensor)
  pub no_length : Departs (set pairs 4 0x00 ++ bytes ++ state ++ sensor)
  -- the state: protection above 15, half 2, high voltage 2
  pub fifth-block : Departs (pairs ++ bytes ++ set state 3 0x10 ++ sensor)
  pub third-half : Departs (pairs ++ bytes ++ set state 4 0x02 ++ sensor)
  pub wrong-voltage : Departs (pairs ++ bytes ++ set state 6 0x02 ++ sensor)
  -- the sensor: pointer 0Ah, a bit of 01h and of 02h that is not kept, 08h and 09h with a high byte or with bits that are not kept
  pub wrong-pointer : Departs (pairs ++ bytes ++ state ++ set sensor 3 0x0A)
  pub wrong-configuration : Departs (pairs ++ bytes ++ state ++ set sensor 4 0x08)
  pub wrong-limit : Departs (pairs ++ bytes ++ state ++ set sensor 7 0x01)
  pub high-resolution : Departs (pairs ++ bytes ++ state ++ set sensor 14 0x01)
  pub wrong-resolution : Departs (pairs ++ bytes ++ state ++ set sensor 15 0x04)
  pub high-timeout : Departs (pairs ++ bytes ++ state ++ set sensor 16 0x01)
  pub wrong-timeout : Departs (pairs ++ bytes ++ state ++ set sensor 17 0x02)
  -- field 5: of zeros, another number than 0 or 1
  pub zeros : Departs (pairs ++ bytes ++ state ++ pinned ++ set five 3 0x00)
  pub another-number : Departs (pairs ++ bytes ++ state ++ pinned ++ set five 3 0x02)
  -- a 1 where no change can be pending: bit 3 of 01h at 0, bit 0 at 0, bit 2 at 1; and in a slot without sensor
  pub not-enabled : Departs (pairs ++ bytes ++ state ++ sensor ++ five)
  pub comparator : Departs (pairs ++ bytes ++ state ++ set sensor 5 0x48 ++ five)
  pub critical-alone : Departs (pairs ++ bytes ++ state ++ set sensor 5 0x4D ++ five)
  pub no-sensor : Departs (set pairs 3 1 ++ bytes ++ state ++ empty 4 ++ five)
  -- its length wrong; cut short; with a byte behind it; and another tag in its place
  pub five-long : Departs (pairs ++ bytes ++ state ++ pinned ++ 0x05 ∷ 0x00 ∷ 0x02 ∷ 0x01 ∷ 0x00 ∷ [])
  pub five-length : Departs (pairs ++ bytes ++ state ++ pinned ++ set five 2 0x02)
  pub five-cut : Departs (pairs ++ bytes ++ state ++ pinned ++ take 3 five)
  pub behind-five : Departs (pairs ++ bytes ++ state ++ pinned ++ five ++ 0x00 ∷ [])
  pub tag-6 : Departs (pairs ++ bytes ++ state ++ pinned ++ set five 0 0x06)
  -- field 6: a byte above 3, of zeros, in a form without an older slot, or with nothing in it; its length wrong; cut short; with a byte behind it
  pub above-3 : Departs (pairs_older ++ bytes_older ++ state_older ++ empty 4 ++ set six 3 0x07)
  pub six-zeros : Departs (pairs_older ++ bytes_older ++ state_older ++ empty 4 ++ set six 3 0x00)
  pub no-older : Departs (pairs ++ bytes ++ state ++ sensor ++ six)
  pub six-empty : Departs (pairs ++ bytes ++ state ++ sensor ++ empty 6)
  pub six-length : Departs (pairs_older ++ bytes_older ++ state_older ++ empty 4 ++ set six 2 0x02)
  pub six-cut : Departs (pairs_older ++ bytes_older ++ state_older ++ empty 4 ++ take 3 six)
  pub behind-six : Departs (pairs_older ++ bytes_older ++ state_older ++ empty 4 ++ six ++ 0x00 ∷ [])
  -- of an older slot: permanent without protection; a bit of protection that is not bit 0; half 1; a field 5; 512 bytes, and of another kind 256
  pub not-protected : Departs (pairs_older ++ bytes_older ++ set state_older 3 0x00 ++ empty 4 ++ six)
  pub another-bit : Departs (pairs_older ++ bytes_older ++ set state_older 3 0x03 ++ empty 4)
  pub upper-half : Departs (pairs_older ++ bytes_older ++ set state_older 4 1 ++ empty 4)
  pub pending-older : Departs (pairs_older ++ bytes_older ++ state_older ++ empty 4 ++ five)
  pub too_many : Departs (pairs_older ++ bytes ++ state_older ++ empty 4)
  pub too-few : Departs (set pairs 3 1 ++ bytes_older ++ state ++ empty 4)
  -- "bit 4 reads whether the pin is asserted (saved as 0)"; and bit 5
  pub pin-saved : Departs (pairs ++ bytes ++ state ++ set sensor 5 0x59 ++ five)
  pub clear-saved : Departs (pairs ++ bytes ++ state ++ set sensor 5 0x69 ++ five)

pub departures : Table
unfolding open-saved
departures = record {
  right = refl;
  no_slot = refl;
  not-pending = refl;
  is-pending = refl;
  for-ever = refl;
  only-protected = refl;
  only-pin = refl;
  wrong-tag = refl;
  wrong-order = refl;
  twice = refl;
  left_out = refl;
  wrong-length = refl;
  low-byte-first = refl;
  byte-behind = refl;
  byte-missing = refl;
  nothing = refl;
  absent-length = refl;
  unknown-kind = refl;
  long = refl;
  no_length = refl;
  fifth-block = refl;
  third-half = refl;
  wrong-voltage = refl;
  wrong-pointer = refl;
  wrong-configuration = refl;
  wrong-limit = refl;
  high-resolution = refl;
  wrong-resolution = refl;
  high-timeout = refl;
  wrong-timeout = refl;
  zeros = refl;
  another-number = refl;
  not-enabled = refl;
  comparator = refl;
  critical-alone = refl;
  no-sensor = refl;
  five-long = refl;
  five-length = refl;
  five-cut = refl;
  behind-five = refl;
  tag-6 = refl;
  above-3 = refl;
  six-zeros = refl;
  no-older = refl;
  six-empty = refl;
  six-length = refl;
  six-cut = refl;
  behind-six = refl;
  not-protected = refl;
  another-bit = refl;
  upper-half = refl;
  pending-older = refl;
  too_many = refl;
  too-few = refl;
  pin-saved = refl;
  clear-saved = refl;
}

-- Reading: a memory of another length comes first, then a form that is not accepted; both leave the bus, and every byte of the memory, though all but the form's last
-- byte is right. The old bus is not looked at: it may be busy, and out of range.
abbrev old_bus : Bus
old_bus = with_slots memory_one (with_left 9 (in_phase Deaf memory_one))

pub record Readings : Type 0 where
  pub one_less : restore_of old_bus (replicate 4095 0) [] ≡ (record { bus = old_bus; answer = answer.Refused MemoryLength }, replicate 4095 0)
  pub one_more : restore_of old_bus (replicate 4097 0) sample_form ≡ (record { bus = old_bus; answer = answer.Refused MemoryLength }, replicate 4097 0)
  pub wrong-form : restore_of old_bus blank (pairs ++ bytes ++ state ++ set sensor 17 0x02)
      ≡ (record { bus = old_bus; answer = answer.Refused WrongForm }, blank)
  pub right-form : restore_of old_bus blank sample_form ≡ (record { bus = bus_in sample_form; answer = answer.Nothing }, memory_in sample_form blank)

-- by what was computed above: what is accepted, and what is not
by_length : (b : Bus) (m f : List ℕ) → wrong_length m ≡ true → restore_of b m f ≡ (record { bus = b; answer = answer.Refused MemoryLength }, m)
unfolding restore_of
by_length b m f e = rw e

by_form : (b : Bus) (m f : List ℕ) → wrong_length m ≡ false → accepted f m ≡ false → restore_of b m f ≡ (record { bus = b; answer = answer.Refused WrongForm }, m)
unfolding restore_of
by_form b m f e a = rw (e, a)

by-none : (b : Bus) (m f : List ℕ) → wrong_length m ≡ false → accepted f m ≡ true
    → restore_of b m f ≡ (record { bus = bus_in f; answer = answer.Nothing }, memory_in f m)
unfolding restore_of
by-none b m f e a = rw (e, a)

short : wrong_length (replicate 4095 0) ≡ true
unfolding wrong_length
short = refl

long : wrong_length (replicate 4097 0) ≡ true
unfolding wrong_length
long = refl

fits : wrong_length blank ≡ false
unfolding wrong_length
fits = refl

pub readings : Readings
readings = record {
  one_less = by_length _ _ _ short;
  one_more = by_length _ _ _ long;
  wrong-form = by_form _ _ _ fits departures.wrong-timeout;
  right-form = by-none _ _ _ fits sample.accepts;
}

-- The number and the value of each result of saving.
pub numbers : map {B = ℕ × ℕ} (λ (r : Result ℕ Refusal). (saved_number r, saved_value r)) (Err MemoryLength ∷ Err WrongState ∷ Err Busy ∷ Err TooShort ∷ Ok 1075 ∷ [])
    ≡ (1, 0) ∷ (6, 0) ∷ (8, 0) ∷ (9, 0) ∷ (0, 1075) ∷ []
unfolding saved_number saved_value refusal_number
numbers = refl

-- The longest form: eight memories with sensors, told apart by counter, pointer and what is pending. Byte j of slot k is j / (k + 1), modulo 256, so that no two
-- places have the same bytes in all slots. Every field has the slots in their order, and the memory has each slot's bytes in theirs. With nothing pending it is the
-- longest that P5 has.
abbrev numbered : Bool → ℕ → Slot
numbered on k = at_rest 2 5 0 k no_blocks false (with_pending on (with_configuration 0x0009 (pointing k fresh_sensor))) fresh_older

abbrev full_bus : Bus
full_bus = record { slots = numbered true 0 ∷ numbered true 1 ∷ numbered false 2 ∷ numbered true 3 ∷ numbered false 4 ∷ numbered false 5 ∷ numbered false 6 ∷ numbered true 7 ∷ [] }

abbrev calm_bus : Bus
calm_bus = record { slots = map (numbered false) (0 ∷ 1 ∷ 2 ∷ 3 ∷ 4 ∷ 5 ∷ 6 ∷ 7 ∷ []) }

abbrev full_memory : List ℕ
full_memory = map_from (λ n b. n % 512 / (n / 512 + 1) % 256) 0 blank

abbrev of_each : (ℕ → List ℕ) → List ℕ
of_each f = f 0 ++ f 1 ++ f 2 ++ f 3 ++ f 4 ++ f 5 ++ f 6 ++ f 7

abbrev calm_form : List ℕ
calm_form =
    (0x01 ∷ 0x00 ∷ 0x10 ∷ []) ++ of_each (λ k. 2 ∷ 5 ∷ [])
    ++ (0x02 ∷ 0x10 ∷ 0x00 ∷ []) ++ full_memory
    ++ (0x03 ∷ 0x00 ∷ 0x20 ∷ []) ++ of_each (λ k. 0x00 ∷ 0 ∷ k ∷ 0 ∷ [])
    ++ (0x04 ∷ 0x00 ∷ 0x78 ∷ []) ++ of_each (λ k. k ∷ 0x00 ∷ 0x09 ∷ replicate 9 0x00 ++ 0x01 ∷ 0x00 ∷ 0x01 ∷ [])

abbrev full_form : List ℕ
full_form = calm_form ++ 0x05 ∷ 0x00 ∷ 0x08 ∷ 1 ∷ 1 ∷ 0 ∷ 1 ∷ 0 ∷ 0 ∷ 0 ∷ 1 ∷ []

pub record Full : Type 0 where
  pub saved : save_of full_bus full_memory (replicate 4287 0xEE) ≡ (Ok 4287, full_form)
  pub short : save_of full_bus full_memory (replicate 4286 0xEE) ≡ (Err TooShort, replicate 4286 0xEE)
  pub bus : bus_in full_form ≡ full_bus
  pub calm-saved : save_of calm_bus full_memory (replicate 4276 0xEE) ≡ (Ok 4276, calm_form)
  pub calm-bus : bus_in calm_form ≡ calm_bus

pub full : Full
unfolding open-saved
full = record { saved = refl; short = refl; bus = refl; calm-saved = refl; calm-bus = refl }
