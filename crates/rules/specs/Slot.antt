-- One slot: what it does at each event in each phase, what it acknowledges, what it drives. It looks at no other slot.
-- Assumes nothing.
use Rattle.std.specs.Prelude.{ℕ, ◌+◌, ◌*◌, ◌/◌, ◌%◌, Bool, true, false, not, cond, ◌&&◌, ◌||◌, List, eqb, leb, ℤ, get_or}
use Rattle.rules.specs.declared.Act.{Act}
use Rattle.rules.specs.declared.Act.TheVariants.{Start, Byte, Read, Stop, Timeout, Tick, Power, Apply}
use Rattle.rules.specs.declared.Applied.{Applied}
use Rattle.rules.specs.declared.Applied.TheVariants.{Voltage, Temperature, WriteProtect}
use Rattle.rules.specs.declared.Phase.{Phase}
use Rattle.rules.specs.declared.Phase.TheVariants.{Idle, Control, Deaf, MemoryCounter, MemoryData, MemoryRead, HalfSelected, CommandAddress, CommandData, CommandStop, SensorPointer, SensorHigh, SensorLow, SensorReadHigh, SensorReadLow}
use Rattle.rules.specs.declared.Slot.{Slot}
use Rattle.rules.specs.declared.Traits.{Traits}
use Rattle.rules.specs.Modelled.{absent, sensing, older, address_of}
use Rattle.rules.specs.Fields.{in_phase, with_voltage, with_sensor, with_old, with_pin, pointing, holding}
use Rattle.rules.specs.Pin.{written_with_pin, converted_with_pin}
use Rattle.rules.specs.Control.{acks_control, controlled}
use Rattle.rules.specs.Memory.{abandoned, cancelled, loaded, guarded, data_byte, fetched, data_stop, command_stop, ticked, ticked_part}
use Rattle.rules.specs.Power.{power_cut, cut_part}

-- what each phase is: of an exchange with the sensor; of a protect or clear that its stop has not yet begun; one in which data bytes are
-- taken; one in which a read is served
abbrev pub being : Bool → Bool → Bool → Bool → Traits
being sensor command takes drives = record { sensor = sensor; command = command; takes = takes; drives = drives }

abbrev pub traits : Phase → Traits
traits Idle = being false false false false
traits Control = being false false false false
traits Deaf = being false false false false
traits MemoryCounter = being false false false false
traits MemoryData = being false false true false
traits MemoryRead = being false false false true
traits HalfSelected = being false false false false
traits CommandAddress = being false true false false
traits CommandData = being false true false false
traits CommandStop = being false true false false
traits SensorPointer = being true false false false
traits SensorHigh = being true false false false
traits SensorLow = being true false false false
traits SensorReadHigh = being true false false true
traits SensorReadLow = being true false false true

abbrev pub with_sensor_in : Phase → Bool
with_sensor_in p = (traits p).sensor

abbrev pub commanding : Phase → Bool
commanding p = (traits p).command

abbrev pub taking : Phase → Bool
taking p = (traits p).takes

abbrev pub drives_in : Phase → Bool
drives_in p = (traits p).drives

-- "absent slots, and sensor exchanges without a sensor, count as deaf": the phase that the rules go by
unfoldable pub standing : Slot → Phase
standing s = cond (absent s || (with_sensor_in s.phase && not (sensing s))) Deaf s.phase

-- "A start, read, timeout or power cycle before the stop abandons the bytes", and "cancels too": what an exchange that is left in a phase
-- lets go, a register's bytes, a command, or latched bytes
unfoldable pub let_go : Phase → Slot → Slot
let_go p s = cond (with_sensor_in p) (holding 0x0000 s) (cond (commanding p) (cancelled s) (cond (taking p) (abandoned s) s))

-- an exchange that is left so that the slot is deaf
unfoldable pub lost : Phase → Slot → Slot
lost p s = in_phase Deaf (let_go p s)

-- sensor write: "pointer byte (above 09h: NACK, deaf, pointer kept), two bytes; the register changes at the ACK of the second. A third gets NACK."
unfoldable pub pointer : ℕ → Slot → Slot
pointer b s = cond (leb b 0x09) (in_phase SensorHigh (with_sensor (pointing b s.sensor) s)) (lost SensorPointer s)

unfoldable pub first_byte : ℕ → Slot → Slot
first_byte b s = in_phase SensorLow (holding (b * 256) s)

unfoldable pub second_byte : ℕ → Slot → Slot
second_byte b s = lost SensorLow (with_sensor (written_with_pin s.sensor s.sensor.pointer (s.sensor.word / 256 * 256 + b)) s)

-- a byte from the master, to slot n
unfoldable pub byte_in : Phase → ℕ → ℕ → Slot → Slot
-- "An idle slot ignores bytes and reads (NACK, FFh) and stays idle."
byte_in Idle n b s = s
-- "The first byte after a start is the control byte."
byte_in Control n b s = controlled n b s
byte_in Deaf n b s = s
byte_in MemoryCounter n b s = loaded b s
byte_in MemoryData n b s = data_byte b s
-- "A master's byte in a read, or a read in a write, is not served (NACK, FFh) and leaves the slot deaf; so with the sensor and with the commands."
byte_in MemoryRead n b s = lost MemoryRead s
-- "later bytes are acknowledged and ignored (bench)"
byte_in HalfSelected n b s = s
-- "exactly one address byte and one data byte, contents ignored, both acknowledged [..] a third byte gets NACK and cancels, deaf"
byte_in CommandAddress n b s = in_phase CommandData s
byte_in CommandData n b s = in_phase CommandStop s
byte_in CommandStop n b s = lost CommandStop s
byte_in SensorPointer n b s = pointer b s
byte_in SensorHigh n b s = first_byte b s
byte_in SensorLow n b s = second_byte b s
byte_in SensorReadHigh n b s = lost SensorReadHigh s
byte_in SensorReadLow n b s = lost SensorReadLow s

-- whether slot n acknowledges it
unfoldable pub acks_in : Phase → ℕ → ℕ → Slot → Bool
acks_in Idle n b s = false
acks_in Control n b s = acks_control n b s
acks_in Deaf n b s = false
acks_in MemoryCounter n b s = true
acks_in MemoryData n b s = not (guarded s)
acks_in MemoryRead n b s = false
acks_in HalfSelected n b s = true
acks_in CommandAddress n b s = true
acks_in CommandData n b s = true
acks_in CommandStop n b s = false
acks_in SensorPointer n b s = leb b 0x09
acks_in SensorHigh n b s = true
acks_in SensorLow n b s = true
acks_in SensorReadHigh n b s = false
acks_in SensorReadLow n b s = false

-- a read; `more`: the master then acknowledges
unfoldable pub read_in : Phase → Bool → Slot → Slot
read_in Idle more s = s
-- "A read before it gives FFh, leaves every slot deaf, and there is then no control byte until the next start."
read_in Control more s = in_phase Deaf s
read_in Deaf more s = s
read_in MemoryCounter more s = lost MemoryCounter s
read_in MemoryData more s = lost MemoryData s
read_in MemoryRead more s = fetched more s
read_in HalfSelected more s = lost HalfSelected s
read_in CommandAddress more s = lost CommandAddress s
read_in CommandData more s = lost CommandData s
read_in CommandStop more s = lost CommandStop s
read_in SensorPointer more s = lost SensorPointer s
read_in SensorHigh more s = lost SensorHigh s
read_in SensorLow more s = lost SensorLow s
-- "a third read, or one after a master NACK, gives FFh"
read_in SensorReadHigh more s = cond more (in_phase SensorReadLow s) (lost SensorReadHigh s)
read_in SensorReadLow more s = lost SensorReadLow s

-- the byte that the slot drives at a read, with its 512 bytes m; FFh where it drives none
unfoldable pub driven_in : Phase → Slot → List ℕ → ℕ
driven_in Idle s m = 0xFF
driven_in Control s m = 0xFF
driven_in Deaf s m = 0xFF
driven_in MemoryCounter s m = 0xFF
driven_in MemoryData s m = 0xFF
driven_in MemoryRead s m = get_or m (address_of s).0 0
driven_in HalfSelected s m = 0xFF
driven_in CommandAddress s m = 0xFF
driven_in CommandData s m = 0xFF
driven_in CommandStop s m = 0xFF
driven_in SensorPointer s m = 0xFF
driven_in SensorHigh s m = 0xFF
driven_in SensorLow s m = 0xFF
-- "high byte first"
driven_in SensorReadHigh s m = s.sensor.word / 256
driven_in SensorReadLow s m = s.sensor.word % 256

-- a stop in each phase
unfoldable pub stop_in : Phase → Slot → Slot
stop_in Idle s = s
stop_in Control s = s
stop_in Deaf s = s
stop_in MemoryCounter s = s
stop_in MemoryData s = data_stop s
stop_in MemoryRead s = s
stop_in HalfSelected s = s
-- "A stop after fewer bytes does nothing"
stop_in CommandAddress s = cancelled s
stop_in CommandData s = cancelled s
-- "Protect and clear take exactly one address byte and one data byte [..] and then a stop, which begins a write cycle"
stop_in CommandStop s = command_stop s
stop_in SensorPointer s = let_go SensorPointer s
stop_in SensorHigh s = let_go SensorHigh s
stop_in SensorLow s = let_go SensorLow s
stop_in SensorReadHigh s = let_go SensorReadHigh s
stop_in SensorReadLow s = let_go SensorReadLow s

-- P9: the lasting form is open. It asks that the voltage is off "at the control byte", and no more of it.
unfoldable pub endures : Slot → Bool
endures s = older s && s.old.lasting

-- "High voltage going off before the stop cancels, deaf."
unfoldable pub switched : Bool → Slot → Slot
switched on s = with_voltage on (cond (commanding (standing s) && s.voltage && not on && not (endures s)) (lost (standing s) s) s)

-- a temperature; a slot without a sensor is given none (refusal 3)
unfoldable pub heated : ℤ → Slot → Slot
heated t s = cond (sensing s) (with_sensor (converted_with_pin s.sensor t) s) s

-- P9: "New event kind 10 sets the write-protect pin"; a slot of another kind has none (refusal 3)
unfoldable pub shielded : Bool → Slot → Slot
shielded on s = cond (older s) (with_old (with_pin on s.old) s) s

-- what reaches one slot alone
unfoldable pub applied : Applied → Slot → Slot
applied (Voltage on) s = switched on s
applied (Temperature t) s = heated t s
applied (WriteProtect on) s = shielded on s

-- slot n, which is present, after an event; "Stop and timeout make a slot idle; neither shortens a write cycle."
unfoldable pub present_next : ℕ → Act → Slot → Slot
present_next n Start s = in_phase Control (let_go (standing s) s)
present_next n (Byte b) s = byte_in (standing s) n b s
present_next n (Read more) s = read_in (standing s) more s
present_next n Stop s = in_phase Idle (stop_in (standing s) s)
present_next n Timeout s = in_phase Idle (let_go (standing s) s)
present_next n Tick s = ticked s
present_next n (Power k) s = power_cut k s
present_next n (Apply k x) s = cond (eqb k.0 n) (applied x s) s

-- slot n after an event: "absent slots [..] count as deaf", and no event touches one
unfoldable pub slot_next : ℕ → Act → Slot → Slot
slot_next n a s = cond (absent s) s (present_next n a s)

-- its 512 bytes m after an event: only a tick and a power cycle reach them
unfoldable pub part_next : Act → Slot → List ℕ → List ℕ
part_next Start s m = m
part_next (Byte v) s m = m
part_next (Read b) s m = m
part_next Stop s m = m
part_next Timeout s m = m
part_next Tick s m = ticked_part s m
part_next (Power k) s m = cut_part k s m
part_next (Apply k x) s m = m

-- slot n acknowledges the byte b
unfoldable pub acks : ℕ → ℕ → Slot → Bool
acks n b s = acks_in (standing s) n b s

-- the slot drives a read, and what it drives, with its 512 bytes m
unfoldable pub drives : Slot → Bool
drives s = drives_in (standing s)

unfoldable pub driven : List ℕ → Slot → ℕ
driven m s = driven_in (standing s) s m
