-- Request P5, "Saving a bench overnight", with what P8 and P9 add to it: reading.
-- Assumes nothing.
use Rattle.std.specs.Prelude.{ℕ, zero, suc, ◌+◌, ◌*◌, Bool, not, cond, ◌&&◌, List, eqb, get_or, take, drop, replicate}
use Rattle.std.proofs.lemmas.List.Edits.{sets}
use Rattle.proof_lists.specs.Each.{map_from}
use Rattle.proof_lists.specs.Same.{same}
use Rattle.rules.specs.declared.Answer.TheVariants as answer
use Rattle.rules.specs.declared.Bus.{Bus}
use Rattle.rules.specs.declared.Outcome.{Outcome}
use Rattle.rules.specs.declared.Refusal.TheVariants.{MemoryLength, WrongForm}
use Rattle.rules.specs.declared.Slot.{Slot}
use Rattle.rules.specs.Modelled.{slot_count, slot_bytes, absent, bytes_of}
use Rattle.rules.specs.Fresh.{absent_slot}
use Rattle.rules.specs.Refusals.{wrong_length, in_range}
use Rattle.rules.specs.Runs.{Bench}
use Rattle.save_rules.specs.Form.{field_count, field_at, is_there, form_of}

-- how many bytes a slot has in the field in row t; how many slots 0 to k - 1 have; how many the field takes, with its tag and its length, if it is
-- there; and where it begins
unfoldable pub size_in : ℕ → Slot → ℕ
size_in t s = (field_at t).size s.kind

unfoldable pub offset : ℕ → ℕ → List Slot → ℕ
offset t zero ss = 0
offset t (suc k) ss = offset t k ss + size_in t (get_or ss k absent_slot)

unfoldable pub span : ℕ → List Slot → ℕ
span t ss = cond (is_there t ss) (3 + offset t slot_count ss) 0

unfoldable pub begins : ℕ → List Slot → ℕ
begins zero ss = 0
begins (suc t) ss = begins t ss + span t ss

-- where slot k's share of the field in row t stands in a form: behind the fields and shares before it, whose sizes go by the slots' kinds
unfoldable pub place : ℕ → ℕ → List Slot → ℕ
place t k ss = begins t ss + 3 + offset t k ss

-- whether a form has the field in row t: its tag stands where it would begin
unfoldable pub tagged : ℕ → List ℕ → List Slot → Bool
tagged t f ss = eqb (get_or f (begins t ss) 0) (field_at t).tag

-- what it says of each slot
unfoldable pub read_shares : ℕ → List ℕ → List Slot → List Slot
read_shares t f ss = map_from (λ k s. (field_at t).reads f (place t k ss) s) 0 ss

-- "the rest as fresh": from absent slots on, each field that the form has says in its turn what it has to say
unfoldable pub read_field : ℕ → List ℕ → List Slot → List Slot
read_field t f ss = cond (tagged t f ss) (read_shares t f ss) ss

unfoldable pub read_to : ℕ → List ℕ → List Slot
read_to zero f = replicate slot_count absent_slot
read_to (suc t) f = read_field t f (read_to t f)

unfoldable pub bus_in : List ℕ → Bus
bus_in f = record { slots = read_to field_count f }

-- the field of memory in the table
abbrev pub memory_row : ℕ
memory_row = 1

-- "absent slots' bytes untouched": a memory m in which the bytes of present slots among the first k are the form's. P9: "256 bytes", so the upper 256
-- of an older slot stay too ("blocks 2 and 3 never touched").
unfoldable pub stored_to : ℕ → List ℕ → List Slot → List ℕ → List ℕ
stored_to zero f ss m = m
stored_to (suc k) f ss m =
    cond (absent (get_or ss k absent_slot)) (stored_to k f ss m)
    (sets (stored_to k f ss m) (slot_bytes * k) (take (bytes_of (get_or ss k absent_slot).kind) (drop (place memory_row k ss) f)))

unfoldable pub memory_in : List ℕ → List ℕ → List ℕ
memory_in f m = stored_to slot_count f (bus_in f).slots m

-- what a form restores to, read into a memory m
unfoldable pub restored : List ℕ → List ℕ → Bench
restored f m = record { bus = bus_in f; memory = memory_in f m }

-- "every form that is accepted is the one the writer would give": a departure is a byte that the writer would not put there, one that is missing,
-- or one too many (so too a field 5 of which no byte is 1, a field 6 of zeros, and in field 6 a byte above 3); "or number out of range": of row 6
-- (P8: "a 1 where no change can be pending"; P9: "another half or bit falls under 6 and 10", and so does permanent without protection)
unfoldable pub accepted : List ℕ → List ℕ → Bool
accepted f m = in_range (bus_in f) && same (form_of (bus_in f) (memory_in f m)) f

-- "Reading refuses a wrong memory length with 1, then every departure or number out of range with 10, and leaves state and memory." The old state
-- is not looked at.
unfoldable pub restore_of : Bus → List ℕ → List ℕ → Outcome × List ℕ
restore_of b m f =
    cond (wrong_length m) (record { bus = b; answer = answer.Refused MemoryLength }, m)
    (cond (not (accepted f m)) (record { bus = b; answer = answer.Refused WrongForm }, m)
    (record { bus = bus_in f; answer = answer.Nothing }, memory_in f m))
