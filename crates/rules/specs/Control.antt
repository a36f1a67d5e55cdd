-- Document 01, "Control byte": what a control byte asks for, which slot acknowledges it, and what the ACK does.
-- Assumes nothing.
use Rattle.std.specs.Prelude.{ℕ, ◌/◌, ◌%◌, Bool, true, false, not, cond, ◌&&◌, ◌||◌, eqb, get_or, set}
use Rattle.rules.specs.declared.SlotNo.{SlotNo}
use Rattle.rules.specs.declared.BlockNo.{BlockNo}
use Rattle.rules.specs.declared.Heard.{Heard}
use Rattle.rules.specs.declared.Heard.TheVariants.{Memory, Sensor, Protect, ClearAll, ReadProtection, SelectHalf, ReadHalf, ProtectForEver, Nothing}
use Rattle.rules.specs.declared.Phase.TheVariants.{Deaf, MemoryCounter, MemoryRead, HalfSelected, CommandAddress, SensorPointer, SensorReadHigh}
use Rattle.rules.specs.declared.Slot.{Slot}
use Rattle.rules.specs.Modelled.{sensing, older}
use Rattle.rules.specs.Fields.{in_phase, in_half, to_come, expecting, holding}
use Rattle.rules.specs.Fresh.{no_blocks}
use Rattle.rules.specs.Pin.{read_of}

abbrev pub block : ℕ → BlockNo
block n = record { 0 = n }

-- the select bits, 3:1, and the read bit, 0
unfoldable pub select_of : ℕ → SlotNo
select_of b = record { 0 = b / 2 % 8 }

unfoldable pub is_read : ℕ → Bool
is_read b = eqb (b % 2) 1

-- the table of commands
unfoldable pub command_of : ℕ → Heard
command_of b =
    -- "62h 68h 6Ah 60h | protect block 0, 1, 2, 3"
    cond (eqb b 0x62) (Protect (block 0))
    (cond (eqb b 0x68) (Protect (block 1))
    (cond (eqb b 0x6A) (Protect (block 2))
    (cond (eqb b 0x60) (Protect (block 3))
    -- "66h | clear all four"
    (cond (eqb b 0x66) ClearAll
    -- "63h 69h 6Bh 61h | read protection 0, 1, 2, 3"
    (cond (eqb b 0x63) (ReadProtection (block 0))
    (cond (eqb b 0x69) (ReadProtection (block 1))
    (cond (eqb b 0x6B) (ReadProtection (block 2))
    (cond (eqb b 0x61) (ReadProtection (block 3))
    -- "6Ch, 6Eh | select half 0, half 1"
    (cond (eqb b 0x6C) (SelectHalf 0)
    (cond (eqb b 0x6E) (SelectHalf 1)
    -- "6Dh | read selected half"
    (cond (eqb b 0x6D) ReadHalf
    -- "64h 65h 67h 6Fh | none"
    Nothing)))))))))))

-- "Upper four bits: 1010: memory [..] 0011: sensor [..] 0110: commands, heard by all present slots. others: no slot."
unfoldable pub heard_of : ℕ → Heard
heard_of b =
    cond (eqb (b / 16) 0xA) (Memory (select_of b) (is_read b))
    (cond (eqb (b / 16) 0x3) (Sensor (select_of b) (is_read b))
    (cond (eqb (b / 16) 0x6) (command_of b)
    Nothing))

-- Request P9: of an older module, slot kind 3, "all 0110 bytes by the rules below". "With high voltage on, 62h protects and 66h clears [..] With the
-- read bit, the same three forms get ACK exactly if the block is unprotected": 63h and 67h
unfoldable pub raised_command : ℕ → Heard
raised_command b =
    cond (eqb b 0x62) (Protect (block 0)) (cond (eqb b 0x66) ClearAll (cond (eqb b 0x63 || eqb b 0x67) (ReadProtection (block 0)) Nothing))

-- "With it off at the control byte, 0110, the slot's select number and a write bit protects for ever"; the third of the forms with the read bit
unfoldable pub own_command : ℕ → ℕ → Heard
own_command n b = cond (eqb (select_of b).0 n) (cond (is_read b) (ReadProtection (block 0)) ProtectForEver) Nothing

-- "after which every 0110 byte gets NACK"; "other 0110 bytes get NACK"
unfoldable pub older_command : ℕ → ℕ → Slot → Heard
older_command n b s = cond s.old.permanent Nothing (cond s.voltage (raised_command b) (own_command n b))

-- what a control byte asks of slot n: of every slot the same, but for the 0110 bytes of an older module
unfoldable pub heard_by : ℕ → ℕ → Slot → Heard
heard_by n b s = cond (older s && eqb (b / 16) 0x6) (older_command n b s) (heard_of b)

unfoldable pub protects : BlockNo → Slot → Bool
protects k s = get_or s.protection k.0 false

-- which present slot n acknowledges, if it is in no write cycle
unfoldable pub acks_heard : Heard → ℕ → Slot → Bool
-- "select bits must equal the slot number"
acks_heard (Memory k r) n s = eqb k.0 n
-- "the same, kind 2 slots only"
acks_heard (Sensor k r) n s = eqb k.0 n && sensing s
-- "high voltage on and block not protected"
acks_heard (Protect k) n s = s.voltage && not (protects k s)
-- "high voltage on"
acks_heard ClearAll n s = s.voltage
-- "block not protected"
acks_heard (ReadProtection k) n s = not (protects k s)
-- "always"
acks_heard (SelectHalf h) n s = true
-- "half 0 selected"
acks_heard ReadHalf n s = eqb s.half 0
-- P9: "the clear and the lasting form are acknowledged unless protection is permanent"
acks_heard ProtectForEver n s = true
-- "never"
acks_heard Nothing n s = false

-- "A slot in a write cycle acknowledges none, sensor included (bench)."
unfoldable pub acks_control : ℕ → ℕ → Slot → Bool
acks_control n b s = eqb s.left 0 && acks_heard (heard_by n b s) n s

-- what the ACK does
unfoldable pub obeyed : Heard → Slot → Slot
obeyed (Memory k false) s = in_phase MemoryCounter s
obeyed (Memory k true) s = in_phase MemoryRead s
obeyed (Sensor k false) s = in_phase SensorPointer s
-- "Read: both bytes are fixed at the control byte's ACK"
obeyed (Sensor k true) s = in_phase SensorReadHigh (holding (read_of s.sensor s.sensor.pointer) s)
-- the protection that will stand when the command's cycle ends
obeyed (Protect k) s = in_phase CommandAddress (expecting (set s.protection k.0 true) s)
obeyed ClearAll s = in_phase CommandAddress (expecting no_blocks s)
-- "After read-protection or read-half, bytes get NACK and reads FFh."
obeyed (ReadProtection k) s = in_phase Deaf s
obeyed ReadHalf s = in_phase Deaf s
-- "Selecting a half takes effect at the ACK"
obeyed (SelectHalf h) s = in_phase HalfSelected (in_half h s)
-- P9: "protects for ever", once its cycle ends
obeyed ProtectForEver s = in_phase CommandAddress (to_come (set s.protection 0 true) true s)
obeyed Nothing s = in_phase Deaf s

-- "A slot that doesn't acknowledge is deaf until the next start."
unfoldable pub controlled : ℕ → ℕ → Slot → Slot
controlled n b s = cond (acks_control n b s) (obeyed (heard_by n b s) s) (in_phase Deaf s)
