-- Request P5, "Saving a bench overnight", with what P8 and P9 add to it: the saved form, as a table of fields over the slots. Writing, reading and
-- what is proved of them go by this table alone.
-- Assumes nothing.
use Rattle.std.specs.Prelude.{ℕ, zero, suc, ◌+◌, ◌*◌, ◌/◌, ◌%◌, Bool, true, false, cond, ◌&&◌, ◌||◌, List, [], ◌∷◌, ◌++◌, eqb, length, get_or, take}
use Rattle.proof_lists.specs.Parts.{part}
use Rattle.rules.specs.declared.Bus.{Bus}
use Rattle.rules.specs.declared.Older.{Older}
use Rattle.rules.specs.declared.Sensor.{Sensor}
use Rattle.rules.specs.declared.Slot.{Slot}
use Rattle.rules.specs.Modelled.{slot_count, slot_bytes, absent, sensing, older, bytes_of}
use Rattle.rules.specs.Fields.{in_half, at_counter, with_voltage, protecting, expecting, with_sensor, with_pending, with_old}
use Rattle.rules.specs.Fresh.{setup_slot, absent_slot}
use Rattle.rules.specs.Sensor.{register_of}
use Rattle.script_text.specs.Records.{pair_at}

-- "with the high byte first": a number of two bytes, and the one at a place
unfoldable pub word_of : ℕ → List ℕ
word_of v = v / 256 ∷ v % 256 ∷ []

unfoldable pub word_at : List ℕ → ℕ → ℕ
word_at bs at = 256 * get_or bs at 0 + get_or bs (at + 1) 0

-- "a byte each for protection (bit b is block b)"
unfoldable pub bits_of : List Bool → ℕ
bits_of [] = 0
bits_of (b ∷ bs) = cond b 1 0 + 2 * bits_of bs

-- and n bits of a byte, the lowest first
unfoldable pub bits_in : ℕ → ℕ → List Bool
bits_in zero v = []
bits_in (suc n) v = eqb (v % 2) 1 ∷ bits_in n (v / 2)

-- A field of the form: its tag; whether a slot needs it (P8: "present only when one is 1"; P9: "present only when one is not 0": it is in the form
-- exactly if a slot needs it); how many bytes a slot of each kind has in it; what these are, of a slot with its 512 bytes; and a slot with what the
-- bytes from a place on say of it. (A slot's memory is no part of the slot: what is read of it is Reading.memory_in.)
pub record Field : Type 0 where
  pub tag : ℕ
  pub needed : Slot → Bool
  pub size : ℕ → ℕ
  pub writes : Slot → List ℕ → List ℕ
  pub reads : List ℕ → ℕ → Slot → Slot

-- P5's fields are in every form
abbrev pub always : Slot → Bool
always s = true

-- "1 the eight setup pairs, an absent slot's length as 0" (as a state in range has it: row 6)
unfoldable pub setup_field : Field
setup_field = record {
  tag = 1;
  needed = always;
  size = λ kind. 2;
  writes = λ s m. s.kind ∷ s.length ∷ [];
  reads = λ f at s. setup_slot (pair_at f at);
}

-- "2 the memory of present slots in slot order"; P9: "256 bytes (so many in tag 2)", the first of an older slot's 512
unfoldable pub memory_field : Field
memory_field = record {
  tag = 2;
  needed = always;
  size = λ kind. cond (eqb kind 0) 0 (bytes_of kind);
  writes = λ s m. cond (absent s) [] (take (bytes_of s.kind) m);
  reads = λ f at s. s;
}

-- "3 a byte each for protection (bit b is block b), half, counter and high voltage of each"
unfoldable pub state_bytes : Slot → List ℕ
state_bytes s = bits_of s.protection ∷ s.half ∷ s.counter ∷ cond s.voltage 1 0 ∷ []

unfoldable pub state_from : List ℕ → ℕ → Slot → Slot
state_from f at s =
    in_half (get_or f (at + 1) 0) (at_counter (get_or f (at + 2) 0) (with_voltage (eqb (get_or f (at + 3) 0) 1)
    (expecting (bits_in 4 (get_or f at 0)) (protecting (bits_in 4 (get_or f at 0)) s))))

unfoldable pub state_field : Field
state_field = record {
  tag = 3;
  needed = always;
  size = λ kind. cond (eqb kind 0) 0 4;
  writes = λ s m. cond (absent s) [] (state_bytes s);
  reads = λ f at s. cond (absent s) s (state_from f at s);
}

-- "4 for each sensor the pointer byte, then registers 01h to 05h, 08h, 09h"
abbrev pub saved_registers : List ℕ
saved_registers = 0x01 ∷ 0x02 ∷ 0x03 ∷ 0x04 ∷ 0x05 ∷ 0x08 ∷ 0x09 ∷ []

-- the first n of them
unfoldable pub registers_to : ℕ → Sensor → List ℕ
registers_to zero x = []
registers_to (suc n) x = registers_to n x ++ word_of (register_of x (get_or saved_registers n 0))

unfoldable pub sensor_bytes : Sensor → List ℕ
sensor_bytes x = x.pointer ∷ registers_to 7 x

-- registers 08h and 09h are held in a byte: of theirs the low byte is read (a high byte that is not 0 would not be written so); that a change is
-- pending is not told here
unfoldable pub sensor_from : List ℕ → ℕ → Sensor
sensor_from f at = record {
  pointer = get_or f at 0;
  configuration = word_at f (at + 1);
  high = word_at f (at + 3);
  low = word_at f (at + 5);
  critical = word_at f (at + 7);
  temperature = word_at f (at + 9);
  resolution = get_or f (at + 12) 0;
  timeout = get_or f (at + 14) 0;
  word = 0x0000;
  pending = false;
}

unfoldable pub sensor_field : Field
sensor_field = record {
  tag = 4;
  needed = always;
  size = λ kind. cond (eqb kind 2) 15 0;
  writes = λ s m. cond (sensing s) (sensor_bytes s.sensor) [];
  reads = λ f at s. cond (sensing s) (with_sensor (sensor_from f at) s) s;
}

-- P8: "tag 5, a byte for each sensor, 1 if a change is pending, present only when one is 1". (Of a byte that is neither 0 nor 1 nothing is pending,
-- and it would not be written so.)
unfoldable pub pending_field : Field
pending_field = record {
  tag = 5;
  needed = λ s. sensing s && s.sensor.pending;
  size = λ kind. cond (eqb kind 2) 1 0;
  writes = λ s m. cond (sensing s) (cond s.sensor.pending 1 0 ∷ []) [];
  reads = λ f at s. cond (sensing s) (with_sensor (with_pending (eqb (get_or f at 0) 1) s.sensor) s) s;
}

-- P9: "tag 6, a byte for each such slot (bit 0 permanent, bit 1 pin), present only when one is not 0": what the byte is, and what it says. (Nothing
-- is open or running in a slot that is saved, so that nothing is to become permanent. A byte above 3 would not be written so.)
unfoldable pub older_byte : Older → ℕ
older_byte x = bits_of (x.permanent ∷ x.pin ∷ [])

unfoldable pub older_from : ℕ → Older
older_from v = record { permanent = eqb (v % 2) 1; lasting = false; pin = eqb (v / 2 % 2) 1 }

unfoldable pub older_field : Field
older_field = record {
  tag = 6;
  needed = λ s. older s && (s.old.permanent || s.old.pin);
  size = λ kind. cond (eqb kind 3) 1 0;
  writes = λ s m. cond (older s) (older_byte s.old ∷ []) [];
  reads = λ f at s. cond (older s) (with_old (older_from (get_or f at 0)) s) s;
}

-- "a run of fields [..] Tags in ascending order, each once"
unfoldable pub fields : List Field
fields = setup_field ∷ memory_field ∷ state_field ∷ sensor_field ∷ pending_field ∷ older_field ∷ []

abbrev pub field_count : ℕ
field_count = 6

-- so many of them are P5's
abbrev pub fixed_count : ℕ
fixed_count = 4

-- the field in row t of the table, and a slot's share of it
unfoldable pub field_at : ℕ → Field
field_at t = get_or fields t setup_field

unfoldable pub share_of : ℕ → Slot → List ℕ → List ℕ
share_of t s m = (field_at t).writes s m

-- the shares of slots 0 to k - 1, one behind the other
unfoldable pub shares : ℕ → ℕ → List Slot → List ℕ → List ℕ
shares t zero ss m = []
shares t (suc k) ss m = shares t k ss m ++ share_of t (get_or ss k absent_slot) (part slot_bytes k m)

-- "one-byte tag, two-byte length with the high byte first, contents"
unfoldable pub whole_field : ℕ → List Slot → List ℕ → List ℕ
whole_field t ss m = (field_at t).tag ∷ word_of (length (shares t slot_count ss m)) ++ shares t slot_count ss m

-- whether one of slots 0 to k - 1 needs the field in row t; and whether it is there at all
unfoldable pub needed_to : ℕ → ℕ → List Slot → Bool
needed_to t zero ss = false
needed_to t (suc k) ss = needed_to t k ss || (field_at t).needed (get_or ss k absent_slot)

unfoldable pub is_there : ℕ → List Slot → Bool
is_there t ss = needed_to t slot_count ss

-- "present only when": else there is nothing of it
unfoldable pub field_bytes : ℕ → List Slot → List ℕ → List ℕ
field_bytes t ss m = cond (is_there t ss) (whole_field t ss m) []

-- the fields in rows 0 to t - 1, one behind the other
unfoldable pub form_to : ℕ → List Slot → List ℕ → List ℕ
form_to zero ss m = []
form_to (suc t) ss m = form_to t ss m ++ field_bytes t ss m

-- the form of a bench
unfoldable pub form_of : Bus → List ℕ → List ℕ
form_of b m = form_to field_count b.slots m
