-- Document 01, "Events": what each kind of event is, and the paper's numbers and values for answers and refusals.
-- Assumes nothing.
use Rattle.std.specs.Prelude.{ℕ, Bool, cond, eqb, ℤ, pos, nat_abs}
use Rattle.std.specs.Int.Signed.{lt_z}
use Rattle.rules.specs.declared.Event.{Event}
use Rattle.rules.specs.declared.Act.{Act}
use Rattle.rules.specs.declared.Act.TheVariants.{Start, Byte, Read, Stop, Timeout, Tick, Power, Apply}
use Rattle.rules.specs.declared.Applied.TheVariants.{Voltage, Temperature, WriteProtect}
use Rattle.rules.specs.declared.Carried.{Carried}
use Rattle.rules.specs.declared.Carried.TheVariants as carries
use Rattle.rules.specs.declared.Refusal.{Refusal}
use Rattle.rules.specs.declared.Refusal.TheVariants.{MemoryLength, UnknownKind, WrongSlot, WrongValue, WrongSetup, WrongState, ProtectedPage, Busy, TooShort, WrongForm}
use Rattle.rules.specs.declared.Answer.{Answer}
use Rattle.rules.specs.declared.Answer.TheVariants as answer

-- "0 master then NACKs, 1 ACKs", "0 off, 1 on": a value in its range 0..1
unfoldable pub is_one : ℤ → Bool
is_one v = lt_z (pos 0) v

-- the table of kinds, row by row; "Empty cells are ignored." P3: the value of kind 8 says how many bytes are still stored. P9: "New event
-- kind 10 sets the write-protect pin". (Asked of kinds 1 to 10 with a value in range.)
unfoldable pub act_of : Event → Act
act_of e =
    cond (eqb e.kind 1) Start
    (cond (eqb e.kind 2) (Byte (nat_abs e.value))
    (cond (eqb e.kind 3) (Read (is_one e.value))
    (cond (eqb e.kind 4) Stop
    (cond (eqb e.kind 5) Timeout
    (cond (eqb e.kind 6) Tick
    (cond (eqb e.kind 7) (Apply e.slot (Voltage (is_one e.value)))
    (cond (eqb e.kind 8) (Power (record { 0 = nat_abs e.value }))
    (cond (eqb e.kind 9) (Apply e.slot (Temperature e.value))
    (Apply e.slot (WriteProtect (is_one e.value)))))))))))

-- what an act carries over the wires: a byte from the master, a read; the others nothing
abbrev pub carried : Act → Carried
carried Start = carries.Nothing
carried (Byte b) = carries.Byte b
carried (Read more) = carries.Read more
carried Stop = carries.Nothing
carried Timeout = carries.Nothing
carried Tick = carries.Nothing
carried (Power k) = carries.Nothing
carried (Apply k x) = carries.Nothing

-- the refusals' numbers, of document 01 and of the change requests
unfoldable pub refusal_number : Refusal → ℕ
refusal_number MemoryLength = 1
refusal_number UnknownKind = 2
refusal_number WrongSlot = 3
refusal_number WrongValue = 4
refusal_number WrongSetup = 5
refusal_number WrongState = 6
refusal_number ProtectedPage = 7
refusal_number Busy = 8
refusal_number TooShort = 9
refusal_number WrongForm = 10

-- the answers' letters, as bytes: `-`, `A`, `N`, `D`, `R`
unfoldable pub letter_of : Answer → ℕ
letter_of answer.Nothing = 0x2D
letter_of answer.Ack = 0x41
letter_of answer.Nack = 0x4E
letter_of (answer.Data b) = 0x44
letter_of (answer.Refused r) = 0x52

-- and their values: the byte read, the refusal's number, else 0
unfoldable pub value_of : Answer → ℕ
value_of answer.Nothing = 0
value_of answer.Ack = 0
value_of answer.Nack = 0
value_of (answer.Data b) = b
value_of (answer.Refused r) = refusal_number r
