-- Document 01's sections "Memory exchanges" and "Sensor", sentence by sentence, for every state that a slot can be handed in with: each says what
-- an event does to a slot that stands in a phase. None has a condition that the paper does not make.
-- Assumes nothing.
use Prim.Native.Nat.{ℕ, ◌+◌, ◌-◌, ◌*◌, ◌/◌, ◌%◌, ◌<◌, ◌≤◌}
use native.Mathlib.Omega.{arith}
use mathlib.Core.Path.{◌≡◌, refl, sym, ◌∙◌, ap}
use mathlib.Core.Bool.{Bool, true, false, false≢true, not, cond, ◌&&◌, ◌||◌}
use mathlib.Core.List.{List}
use lib.Dec.{eqb}
use lib.IntN.{ℤ}
use lib.ListN.{get_or, set, replicate}
use borrow.Author.Tests.{eq-eqb, ne_eqb, le-leb, lt-leb}
use Rattle.proof_lists.specs.Tests.{cond_cases, by-test, both, or_left_false, or_right_false}
use Rattle.rules.specs.declared.Act.{Act}
use Rattle.rules.specs.declared.Cut.{Cut}
use Rattle.rules.specs.declared.Act.TheVariants.{Start, Byte, Read, Stop, Timeout, Tick, Power, Apply}
use Rattle.rules.specs.declared.Applied.{Applied}
use Rattle.rules.specs.declared.Applied.TheVariants.{Voltage, Temperature, WriteProtect}
use Rattle.rules.specs.declared.Phase.{Phase}
use Rattle.rules.specs.declared.Phase.TheVariants.{Idle, Control, Deaf, MemoryCounter, MemoryData, MemoryRead, HalfSelected, CommandAddress, CommandData, CommandStop, SensorPointer, SensorHigh, SensorLow, SensorReadHigh, SensorReadLow}
use Rattle.rules.specs.declared.Slot.{Slot}
use Rattle.rules.specs.declared.SlotNo.{SlotNo}
use Rattle.rules.specs.Modelled.{absent, sensing, address_of, block_of, older}
use Rattle.rules.specs.Open.{open-fields, open-memory, open-slot}
use Rattle.rules.specs.Fields.{in_phase, at_counter, with_left, protecting, expecting, with_voltage, latched, placed, with_sensor, holding, pointing, with_old, lasts, with_pin}
use Rattle.rules.specs.Fresh.{no_bytes, no_marks, fresh_slot, fresh_sensor, powered, fresh_older}
use Rattle.rules.specs.Pin.{written_with_pin, converted_with_pin}
use Rattle.rules.specs.Control.{protects}
use Rattle.rules.specs.Memory.{up_in_page, guarded, any_mark, pin_on, brought, permanent_then}
use Rattle.rules.specs.Power.{finished, power_cut}
use Rattle.rules.specs.Slot.{with_sensor_in, commanding, taking, standing, let_go, lost, byte_in, acks_in, read_in, drives_in, driven_in, stop_in, switched, heated, present_next, slot_next, acks, drives, driven, applied, endures, shielded}
use Rattle.rules.proofs.Run.Cases.{next-cases, present-next, byte_next, read_next, sensing-present, older-present}
use Rattle.rules.proofs.Memory.Protection.{Cycle, as_was, page_begins, command_begins, goes_on, power_ends, cycle-next}

-- a slot that stands in another phase than deaf is there
there : (s : Slot) (p : Phase) → standing s ≡ p → (p ≡ Deaf → ⊥) → absent s ≡ false
unfolding standing
there s p e ne = by-test (absent s) (λ a. absurd (ne (sym e ∙ rw a))) (λ a. a)

-- what an event does to a slot that stands in the phase p
module _ (n : ℕ) (s : Slot) (p : Phase) (stood : standing s ≡ p) where
  at_byte : (b : ℕ) → slot_next n (Byte b) s ≡ byte_in p n b s
  at_byte b = byte_next n b s ∙ ap (λ (q : Phase). byte_in q n b s) stood

  at_read : (more : Bool) → slot_next n (Read more) s ≡ read_in p more s
  at_read more = read_next n more s ∙ ap (λ (q : Phase). read_in q more s) stood

  ack-at : (b : ℕ) → acks n b s ≡ acks_in p n b s
  unfolding acks
  ack-at b = ap (λ (q : Phase). acks_in q n b s) stood

  drive-at : drives s ≡ drives_in p
  unfolding drives
  drive-at = ap drives_in stood

  driven-at : (m : List ℕ) → driven m s ≡ driven_in p s m
  unfolding driven
  driven-at m = ap (λ (q : Phase). driven_in q s m) stood

  module _ (here : p ≡ Deaf → ⊥) where
    at-start : slot_next n Start s ≡ in_phase Control (let_go p s)
    unfolding present_next
    at-start = present-next n Start s (there s p stood here) ∙ ap (λ (q : Phase). in_phase Control (let_go q s)) stood

    at-timeout : slot_next n Timeout s ≡ in_phase Idle (let_go p s)
    unfolding present_next
    at-timeout = present-next n Timeout s (there s p stood here) ∙ ap (λ (q : Phase). in_phase Idle (let_go q s)) stood

    at-stop : slot_next n Stop s ≡ in_phase Idle (stop_in p s)
    unfolding present_next
    at-stop = present-next n Stop s (there s p stood here) ∙ ap (λ (q : Phase). in_phase Idle (stop_in q s)) stood

-- phases are told apart
abbrev number : Phase → ℕ
number Idle = 0
number Control = 1
number Deaf = 2
number MemoryCounter = 3
number MemoryData = 4
number MemoryRead = 5
number HalfSelected = 6
number CommandAddress = 7
number CommandData = 8
number CommandStop = 9
number SensorPointer = 10
number SensorHigh = 11
number SensorLow = 12
number SensorReadHigh = 13
number SensorReadLow = 14

apart : (p q : Phase) → eqb (number p) (number q) ≡ false → p ≡ q → ⊥
apart p q e f = false≢true (sym e ∙ eq-eqb (number p) (number q) (ap number f))

-- "Write: the next byte loads the 8-bit counter and is acknowledged."
pub counter-byte : (n b : ℕ) (s : Slot) → standing s ≡ MemoryCounter
    → (acks n b s ≡ true) × (slot_next n (Byte b) s ≡ in_phase MemoryData (placed (b % 16) (at_counter b s)))
unfolding open-memory open-slot open-fields
counter-byte n b s e = (ack-at n s MemoryCounter e b, at_byte n s MemoryCounter e b)

-- "the low four counter bits go up by one, wrapping": the page is kept
pub counter-up : (c : ℕ) → (up_in_page c / 16 ≡ c / 16) × (up_in_page c % 16 ≡ (c % 16 + 1) % 16)
unfolding up_in_page
counter-up c = (omega arith, omega arith)

-- "else it is acknowledged and latched at the counter's offset in its 16-byte page, and the low four counter bits go up by one, wrapping."
pub data-byte : (n b : ℕ) (s : Slot) → standing s ≡ MemoryData → guarded s ≡ false
    → (acks n b s ≡ true) × (slot_next n (Byte b) s ≡ at_counter (up_in_page s.counter) (placed (up_in_page s.counter % 16) (latched (set s.latch (s.counter % 16) b) (set s.marks (s.counter % 16) true) s)))
unfolding open-memory open-slot open-fields
data-byte n b s e h0 = (ack-at n s MemoryData e b ∙ rw h0, at_byte n s MemoryData e b ∙ rw h0)

-- "Each later byte: if the block is protected, NACK, deaf, counter still"; what was latched before it is let go with the exchange
pub protected-byte : (n b : ℕ) (s : Slot) → standing s ≡ MemoryData → guarded s ≡ true
    → (acks n b s ≡ false) × (slot_next n (Byte b) s ≡ in_phase Deaf (placed 0 (latched no_bytes no_marks s)))
unfolding open-memory open-slot open-fields
protected-byte n b s e h0 = (ack-at n s MemoryData e b ∙ rw h0, at_byte n s MemoryData e b ∙ rw h0)

-- "Address = 256 x half + counter; block = address / 128": which block that is; P9: or the write-protect pin of an older module is on
pub guarded-block : (s : Slot) → guarded s ≡ (get_or s.protection ((256 * s.half + s.counter) / 128) false || (eqb s.kind 3 && s.old.pin))
unfolding guarded pin_on older protects block_of address_of
guarded-block s = refl

-- "A stop with at least one latched byte begins the write cycle", a page's, which brings no protection
pub stop-begins : (n : ℕ) (s : Slot) → standing s ≡ MemoryData → any_mark s.marks ≡ true
    → slot_next n Stop s ≡ in_phase Idle (with_left s.length (placed 0 (expecting s.protection s)))
unfolding open-memory open-slot open-fields
stop-begins n s e h0 = at-stop n s MemoryData e (apart MemoryData Deaf refl) ∙ rw h0

-- and one with none begins none
pub stop-begins-none : (n : ℕ) (s : Slot) → standing s ≡ MemoryData → any_mark s.marks ≡ false
    → slot_next n Stop s ≡ in_phase Idle (placed 0 (latched no_bytes no_marks s))
unfolding open-memory open-slot open-fields
stop-begins-none n s e h0 = at-stop n s MemoryData e (apart MemoryData Deaf refl) ∙ rw h0

pub stop-after-counter : (n : ℕ) (s : Slot) → standing s ≡ MemoryCounter
    → slot_next n Stop s ≡ in_phase Idle s
unfolding open-memory open-slot open-fields
stop-after-counter n s e = at-stop n s MemoryCounter e (apart MemoryCounter Deaf refl)

-- "A start, read, timeout or power cycle before the stop abandons the bytes; the counter stays where it then stands, save after power."
pub start-abandons : (n : ℕ) (s : Slot) → standing s ≡ MemoryData
    → slot_next n Start s ≡ in_phase Control (placed 0 (latched no_bytes no_marks s))
unfolding open-memory open-slot open-fields
start-abandons n s e = at-start n s MemoryData e (apart MemoryData Deaf refl)

pub timeout-abandons : (n : ℕ) (s : Slot) → standing s ≡ MemoryData
    → slot_next n Timeout s ≡ in_phase Idle (placed 0 (latched no_bytes no_marks s))
unfolding open-memory open-slot open-fields
timeout-abandons n s e = at-timeout n s MemoryData e (apart MemoryData Deaf refl)

pub read-abandons : (n : ℕ) (more : Bool) (s : Slot) → standing s ≡ MemoryData
    → (drives s ≡ false) × (slot_next n (Read more) s ≡ in_phase Deaf (placed 0 (latched no_bytes no_marks s)))
unfolding open-memory open-slot open-fields
read-abandons n more s e = (drive-at n s MemoryData e, at_read n s MemoryData e more)

-- "A power cycle does the same, but keeps memory, protection and the high-voltage levels.": in every phase; P3: the protection that a running cycle
-- was to bring may come with it; P9: permanent protection and the pin are kept
pub power-cycle : (n : ℕ) (k : Cut) (s : Slot) → absent s ≡ false
    → let p : List Bool = cond (finished k s) (brought s) s.protection in
    let l : Bool = cond (finished k s) (permanent_then s) s.old.permanent in
    slot_next n (Power k) s
    ≡ with_voltage s.voltage (expecting p (protecting p (with_old (record { permanent = l; lasting = false; pin = s.old.pin }) (fresh_slot s.kind s.length))))
unfolding present_next power_cut powered open-memory open-fields
power-cycle n k s a = present-next n (Power k) s a ∙ by-test (finished k s) (λ e. rw e) (λ e. rw e)

pub fresh : (kind length : ℕ)
    → fresh_slot kind length
    ≡ record { kind = kind; length = length; left = 0; half = 0; counter = 0; protection = replicate 4 false; coming = replicate 4 false; voltage = false; phase = Idle; latch = replicate 16 0; marks = replicate 16 false; place = 0; sensor = record { pointer = 0x00; configuration = 0x0000; high = 0x0000; low = 0x0000; critical = 0x0000; temperature = 0x0000; resolution = 0x01; timeout = 0x01; word = 0x0000; pending = false }; old = record { permanent = false; lasting = false; pin = false } }
unfolding fresh_slot fresh_sensor fresh_older
fresh kind length = refl

-- "the tick that ends it (the slot's Nth after the stop) puts the latched bytes in memory and touches no other" (Stored.act-byte), and what
-- is to come stands; every other tick goes on with the cycle, and none moves a phase
pub last-tick : (n : ℕ) (s : Slot) → absent s ≡ false → s.left ≡ 1 → slot_next n Tick s
    ≡ with_left 0 (latched no_bytes no_marks (expecting (brought s) (protecting (brought s) (with_old (lasts (permanent_then s) s.old) s))))
unfolding present_next open-memory
last-tick n s a e = present-next n Tick s a ∙ rw (eq-eqb s.left 1 e)

pub other-tick : (n : ℕ) (s : Slot) → absent s ≡ false → (s.left ≡ 1 → ⊥) → slot_next n Tick s ≡ with_left (s.left - 1) s
unfolding present_next open-memory
other-tick n s a e = present-next n Tick s a ∙ rw (ne_eqb s.left 1 e)

-- "Read: each read drives the byte at the address, and the counter goes up by one modulo 256, in the selected half. After a master NACK the slot is deaf."
pub memory-read : (n : ℕ) (more : Bool) (s : Slot) (m : List ℕ) → standing s ≡ MemoryRead
    → (drives s ≡ true) × (driven m s ≡ get_or m (256 * s.half + s.counter) 0) × (slot_next n (Read more) s ≡ in_phase (cond more MemoryRead Deaf) (at_counter ((s.counter + 1) % 256) s))
unfolding driven_in address_of open-memory open-slot open-fields
memory-read n more s m e = (drive-at n s MemoryRead e, driven-at n s MemoryRead e m, at_read n s MemoryRead e more)

-- "A master's byte in a read, or a read in a write, is not served (NACK, FFh) and leaves the slot deaf"
pub byte-in-read : (n b : ℕ) (s : Slot) → standing s ≡ MemoryRead
    → (acks n b s ≡ false) × (slot_next n (Byte b) s ≡ in_phase Deaf s)
unfolding open-memory open-slot open-fields
byte-in-read n b s e = (ack-at n s MemoryRead e b, at_byte n s MemoryRead e b)

pub read-in-write : (n : ℕ) (more : Bool) (s : Slot) → standing s ≡ MemoryCounter
    → (drives s ≡ false) × (slot_next n (Read more) s ≡ in_phase Deaf s)
unfolding open-memory open-slot open-fields
read-in-write n more s e = (drive-at n s MemoryCounter e, at_read n s MemoryCounter e more)

-- "later bytes are acknowledged and ignored (bench)"
pub half-byte : (n b : ℕ) (s : Slot) → standing s ≡ HalfSelected
    → (acks n b s ≡ true) × (slot_next n (Byte b) s ≡ s)
unfolding open-memory open-slot open-fields
half-byte n b s e = (ack-at n s HalfSelected e b, at_byte n s HalfSelected e b)

-- "so with the sensor and with the commands": the half stays selected
pub half-read : (n : ℕ) (more : Bool) (s : Slot) → standing s ≡ HalfSelected
    → (drives s ≡ false) × (slot_next n (Read more) s ≡ in_phase Deaf s)
unfolding open-memory open-slot open-fields
half-read n more s e = (drive-at n s HalfSelected e, at_read n s HalfSelected e more)

-- "Protect and clear take exactly one address byte and one data byte, contents ignored, both acknowledged"
pub address-byte : (n b : ℕ) (s : Slot) → standing s ≡ CommandAddress
    → (acks n b s ≡ true) × (slot_next n (Byte b) s ≡ in_phase CommandData s)
unfolding open-memory open-slot open-fields
address-byte n b s e = (ack-at n s CommandAddress e b, at_byte n s CommandAddress e b)

pub second-byte : (n b : ℕ) (s : Slot) → standing s ≡ CommandData
    → (acks n b s ≡ true) × (slot_next n (Byte b) s ≡ in_phase CommandStop s)
unfolding open-memory open-slot open-fields
second-byte n b s e = (ack-at n s CommandData e b, at_byte n s CommandData e b)

-- "and then a stop, which begins a write cycle; protection changes when it ends."
pub stop-commands : (n : ℕ) (s : Slot) → standing s ≡ CommandStop → pin_on s ≡ false
    → slot_next n Stop s ≡ in_phase Idle (with_left s.length (placed 0 s))
unfolding open-memory open-slot open-fields
stop-commands n s e h0 = at-stop n s CommandStop e (apart CommandStop Deaf refl) ∙ rw h0

-- P9: "without cycle or effect if it is on at the stop"
pub stop-with-pin : (n : ℕ) (s : Slot) → standing s ≡ CommandStop → pin_on s ≡ true
    → slot_next n Stop s ≡ in_phase Idle (expecting s.protection s)
unfolding open-memory open-slot open-fields
stop-with-pin n s e h0 = at-stop n s CommandStop e (apart CommandStop Deaf refl) ∙ rw h0

-- "A stop after fewer bytes does nothing"
pub stop-after-none : (n : ℕ) (s : Slot) → standing s ≡ CommandAddress
    → slot_next n Stop s ≡ in_phase Idle (expecting s.protection s)
unfolding open-memory open-slot open-fields
stop-after-none n s e = at-stop n s CommandAddress e (apart CommandAddress Deaf refl)

pub stop-after-one : (n : ℕ) (s : Slot) → standing s ≡ CommandData
    → slot_next n Stop s ≡ in_phase Idle (expecting s.protection s)
unfolding open-memory open-slot open-fields
stop-after-one n s e = at-stop n s CommandData e (apart CommandData Deaf refl)

-- "a third byte gets NACK and cancels, deaf"
pub third-byte : (n b : ℕ) (s : Slot) → standing s ≡ CommandStop
    → (acks n b s ≡ false) × (slot_next n (Byte b) s ≡ in_phase Deaf (expecting s.protection s))
unfolding open-memory open-slot open-fields
third-byte n b s e = (ack-at n s CommandStop e b, at_byte n s CommandStop e b)

-- "a start, read, timeout or power cycle before the stop cancels too. High voltage going off before the stop cancels, deaf.", in each of the
-- three phases of a protect or clear
commands : (P : Phase → Type 0) → P CommandAddress → P CommandData → P CommandStop → (p : Phase) → commanding p ≡ true → P p
commands P a d s CommandAddress c = a
commands P a d s CommandData c = d
commands P a d s CommandStop c = s
commands P a d s Idle c = absurd (false≢true c)
commands P a d s Control c = absurd (false≢true c)
commands P a d s Deaf c = absurd (false≢true c)
commands P a d s MemoryCounter c = absurd (false≢true c)
commands P a d s MemoryData c = absurd (false≢true c)
commands P a d s MemoryRead c = absurd (false≢true c)
commands P a d s HalfSelected c = absurd (false≢true c)
commands P a d s SensorPointer c = absurd (false≢true c)
commands P a d s SensorHigh c = absurd (false≢true c)
commands P a d s SensorLow c = absurd (false≢true c)
commands P a d s SensorReadHigh c = absurd (false≢true c)
commands P a d s SensorReadLow c = absurd (false≢true c)

module _ (n : ℕ) (s : Slot) (c : commanding (standing s) ≡ true) where
  not-deaf : standing s ≡ Deaf → ⊥
  not-deaf e = false≢true (sym (ap commanding e) ∙ c)

  pub start-cancels : slot_next n Start s ≡ in_phase Control (expecting s.protection s)
  unfolding let_go open-memory
  start-cancels = at-start n s (standing s) refl not-deaf ∙ commands (λ p. in_phase Control (let_go p s) ≡ in_phase Control (expecting s.protection s)) refl refl refl (standing s) c

  pub timeout-cancels : slot_next n Timeout s ≡ in_phase Idle (expecting s.protection s)
  unfolding let_go open-memory
  timeout-cancels = at-timeout n s (standing s) refl not-deaf ∙ commands (λ p. in_phase Idle (let_go p s) ≡ in_phase Idle (expecting s.protection s)) refl refl refl (standing s) c

  pub read-cancels : (more : Bool) → (drives s ≡ false) × (slot_next n (Read more) s ≡ in_phase Deaf (expecting s.protection s))
  unfolding read_in let_go lost drives open-memory
  read-cancels more = (
    commands (λ p. drives_in p ≡ false) refl refl refl (standing s) c,
    at_read n s (standing s) refl more ∙ commands (λ p. read_in p more s ≡ in_phase Deaf (expecting s.protection s)) refl refl refl (standing s) c,
  )

  pub voltage-cancels : s.voltage ≡ true → endures s ≡ false
      → slot_next n (Apply (record { 0 = n }) (Voltage false)) s ≡ with_voltage false (in_phase Deaf (expecting s.protection s))
  unfolding present_next applied switched
  voltage-cancels v l =
      let going = both (commanding (standing s) && s.voltage && true) (not (endures s)) (both (commanding (standing s) && s.voltage) true (both (commanding (standing s)) s.voltage c v) refl) (ap not l) in
      present-next n _ s (there s (standing s) refl not-deaf) ∙ rw (eq-eqb n n refl)
      (ap (λ (b : Bool). with_voltage false (cond b (lost (standing s) s) s)) going
      ∙ ap (with_voltage false) (unfold lost let_go open-memory in commands (λ p. lost p s ≡ in_phase Deaf (expecting s.protection s)) refl refl refl (standing s) c))

-- and nothing else is an event of the pin: on, off again, in any other phase, and for P9's lasting form, it is the level alone
pub voltage-level : (n : ℕ) (on : Bool) (s : Slot) → absent s ≡ false → (commanding (standing s) && s.voltage && not on && not (endures s)) ≡ false
    → slot_next n (Apply (record { 0 = n }) (Voltage on)) s ≡ with_voltage on s
unfolding present_next applied switched
voltage-level n on s a e = present-next n _ s a ∙ rw (eq-eqb n n refl, e)

-- Sensor. "Write: pointer byte (above 09h: NACK, deaf, pointer kept)"
pub pointer-byte : (n b : ℕ) (s : Slot) → standing s ≡ SensorPointer → b ≤ 0x09
    → (acks n b s ≡ true) × (slot_next n (Byte b) s ≡ in_phase SensorHigh (with_sensor (pointing b s.sensor) s))
unfolding open-memory open-slot open-fields
pointer-byte n b s e h0 = (ack-at n s SensorPointer e b ∙ rw (le-leb b 0x09 h0), at_byte n s SensorPointer e b ∙ rw (le-leb b 0x09 h0))

pub pointer-above : (n b : ℕ) (s : Slot) → standing s ≡ SensorPointer → 0x09 < b
    → (acks n b s ≡ false) × (slot_next n (Byte b) s ≡ in_phase Deaf (holding 0x0000 s))
unfolding open-memory open-slot open-fields
pointer-above n b s e h0 = (ack-at n s SensorPointer e b ∙ rw (lt-leb b 0x09 h0), at_byte n s SensorPointer e b ∙ rw (lt-leb b 0x09 h0))

-- "two bytes; the register changes at the ACK of the second. A third gets NACK." (deaf then)
pub register-high : (n b : ℕ) (s : Slot) → standing s ≡ SensorHigh
    → (acks n b s ≡ true) × (slot_next n (Byte b) s ≡ in_phase SensorLow (holding (b * 256) s))
unfolding open-memory open-slot open-fields
register-high n b s e = (ack-at n s SensorHigh e b, at_byte n s SensorHigh e b)

pub register-low : (n b : ℕ) (s : Slot) → standing s ≡ SensorLow
    → (acks n b s ≡ true) × (slot_next n (Byte b) s ≡ in_phase Deaf (holding 0x0000 (with_sensor (written_with_pin s.sensor s.sensor.pointer (s.sensor.word / 256 * 256 + b)) s)))
unfolding open-memory open-slot open-fields
register-low n b s e = (ack-at n s SensorLow e b, at_byte n s SensorLow e b)

-- "Read: both bytes are fixed at the control byte's ACK" (Control.obeyed); "high byte first"; "a third read, or one after a master NACK, gives FFh" (deaf then)
pub high_read : (n : ℕ) (more : Bool) (s : Slot) (m : List ℕ) → standing s ≡ SensorReadHigh
    → (drives s ≡ true) × (driven m s ≡ s.sensor.word / 256) × (slot_next n (Read more) s ≡ cond more (in_phase SensorReadLow s) (in_phase Deaf (holding 0x0000 s)))
unfolding driven_in open-memory open-slot open-fields
high_read n more s m e = (drive-at n s SensorReadHigh e, driven-at n s SensorReadHigh e m, at_read n s SensorReadHigh e more)

pub low_read : (n : ℕ) (more : Bool) (s : Slot) (m : List ℕ) → standing s ≡ SensorReadLow
    → (drives s ≡ true) × (driven m s ≡ s.sensor.word % 256) × (slot_next n (Read more) s ≡ in_phase Deaf (holding 0x0000 s))
unfolding driven_in open-memory open-slot open-fields
low_read n more s m e = (drive-at n s SensorReadLow e, driven-at n s SensorReadLow e m, at_read n s SensorReadLow e more)

-- "not served (NACK, FFh) and leaves the slot deaf; so with the sensor"
pub byte-in-high-read : (n b : ℕ) (s : Slot) → standing s ≡ SensorReadHigh
    → (acks n b s ≡ false) × (slot_next n (Byte b) s ≡ in_phase Deaf (holding 0x0000 s))
unfolding open-memory open-slot open-fields
byte-in-high-read n b s e = (ack-at n s SensorReadHigh e b, at_byte n s SensorReadHigh e b)

pub byte-in-low-read : (n b : ℕ) (s : Slot) → standing s ≡ SensorReadLow
    → (acks n b s ≡ false) × (slot_next n (Byte b) s ≡ in_phase Deaf (holding 0x0000 s))
unfolding open-memory open-slot open-fields
byte-in-low-read n b s e = (ack-at n s SensorReadLow e b, at_byte n s SensorReadLow e b)

pub read-in-pointer-write : (n : ℕ) (more : Bool) (s : Slot) → standing s ≡ SensorPointer
    → (drives s ≡ false) × (slot_next n (Read more) s ≡ in_phase Deaf (holding 0x0000 s))
unfolding open-memory open-slot open-fields
read-in-pointer-write n more s e = (drive-at n s SensorPointer e, at_read n s SensorPointer e more)

pub read-in-high-write : (n : ℕ) (more : Bool) (s : Slot) → standing s ≡ SensorHigh
    → (drives s ≡ false) × (slot_next n (Read more) s ≡ in_phase Deaf (holding 0x0000 s))
unfolding open-memory open-slot open-fields
read-in-high-write n more s e = (drive-at n s SensorHigh e, at_read n s SensorHigh e more)

pub read-in-low-write : (n : ℕ) (more : Bool) (s : Slot) → standing s ≡ SensorLow
    → (drives s ≡ false) × (slot_next n (Read more) s ≡ in_phase Deaf (holding 0x0000 s))
unfolding open-memory open-slot open-fields
read-in-low-write n more s e = (drive-at n s SensorLow e, at_read n s SensorLow e more)

-- "An idle slot ignores bytes and reads (NACK, FFh) and stays idle."
pub idle-ignores : (n b : ℕ) (more : Bool) (s : Slot) → standing s ≡ Idle → (acks n b s ≡ false) × (drives s ≡ false) × (slot_next n (Byte b) s ≡ s) × (slot_next n (Read more) s ≡ s)
unfolding open-memory open-slot open-fields
idle-ignores n b more s e = (ack-at n s Idle e b, drive-at n s Idle e, at_byte n s Idle e b, at_read n s Idle e more)

-- "A read before it [the control byte] gives FFh, leaves every slot deaf": of each slot that awaits one
pub read_first : (n : ℕ) (more : Bool) (s : Slot) → standing s ≡ Control → (drives s ≡ false) × (slot_next n (Read more) s ≡ in_phase Deaf s)
unfolding open-memory open-slot open-fields
read_first n more s e = (drive-at n s Control e, at_read n s Control e more)

-- "Stop and timeout make a slot idle; neither shortens a write cycle."
pub stop-idle : (n : ℕ) (s : Slot) → absent s ≡ false → ((slot_next n Stop s).phase ≡ Idle) × ((slot_next n Timeout s).phase ≡ Idle)
unfolding present_next in_phase
stop-idle n s a = (ap (λ (r : Slot). r.phase) (present-next n Stop s a), ap (λ (r : Slot). r.phase) (present-next n Timeout s a))

not-shorter : (a : Act) (s : Slot) (left : ℕ) → s.left ≤ s.length → (a ≡ Tick → ⊥) → ((k : Cut) → a ≡ Power k → ⊥) → Cycle a s left → s.left ≤ left
not-shorter a s left l t p (as_was e) = omega arith
not-shorter a s left l t p (page_begins e q m f) = omega arith
not-shorter a s left l t p (command_begins e q g f) = omega arith
not-shorter a s left l t p (goes_on e f) = absurd (t e)
not-shorter a s left l t p (power_ends k e f) = absurd (p k e)

pub never-shortened : (n : ℕ) (a : Act) (s : Slot) → s.left ≤ s.length → (a ≡ Tick → ⊥) → ((k : Cut) → a ≡ Power k → ⊥) → s.left ≤ (slot_next n a s).left
never-shortened n a s l t p = not-shorter a s _ l t p (cycle-next n a s)

-- "The cycle is judged at the control byte: a slot whose cycle ends after that byte stays deaf until the next start.": no tick moves a phase
pub tick-phase : (n : ℕ) (s : Slot) → (slot_next n Tick s).phase ≡ s.phase
unfolding present_next open-memory open-fields
tick-phase n s = next-cases (λ (r : Slot). r.phase ≡ s.phase) n Tick s (λ a. refl) λ a. cond_cases (λ (r : Slot). r.phase ≡ s.phase) (eqb s.left 1) (λ e. refl) (λ e. refl)

-- a start, and a timeout, where the exchange holds nothing
pub start_plain : (n : ℕ) (s : Slot) → absent s ≡ false → (with_sensor_in (standing s) || commanding (standing s) || taking (standing s)) ≡ false
    → (slot_next n Start s ≡ in_phase Control s) × (slot_next n Timeout s ≡ in_phase Idle s)
unfolding present_next
start_plain n s a e = let h = plain (standing s) s e in (present-next n Start s a ∙ ap (in_phase Control) h, present-next n Timeout s a ∙ ap (in_phase Idle) h)
  where
    plain : (p : Phase) (s : Slot) → (with_sensor_in p || commanding p || taking p) ≡ false → let_go p s ≡ s
    plain p s e = unfold let_go in rw (or_left_false (with_sensor_in p) (commanding p) (or_left_false (with_sensor_in p || commanding p) (taking p) e), or_right_false (with_sensor_in p) (commanding p) (or_left_false (with_sensor_in p || commanding p) (taking p) e), or_right_false (with_sensor_in p || commanding p) (taking p) e)

-- and where it is one with the sensor, whose word is let go
pub start-sensor : (n : ℕ) (s : Slot) → with_sensor_in (standing s) ≡ true
    → (slot_next n Start s ≡ in_phase Control (holding 0x0000 s)) × (slot_next n Timeout s ≡ in_phase Idle (holding 0x0000 s))
unfolding let_go
start-sensor n s e =
    let d : standing s ≡ Deaf → ⊥ = λ f. false≢true (sym (ap with_sensor_in f) ∙ e) in
    (at-start n s (standing s) refl d ∙ rw e, at-timeout n s (standing s) refl d ∙ rw e)

-- events of another slot's pins or temperature
pub another-slot : (n : ℕ) (k : SlotNo) (x : Applied) (s : Slot) → (k.0 ≡ n → ⊥) → slot_next n (Apply k x) s ≡ s
unfolding present_next
another-slot n k x s ne = next-cases (λ (r : Slot). r ≡ s) n (Apply k x) s (λ a. refl) (λ a. rw (ne_eqb k.0 n ne))

pub own-temperature : (n : ℕ) (t : ℤ) (s : Slot) → sensing s ≡ true → slot_next n (Apply (record { 0 = n }) (Temperature t)) s ≡ with_sensor (converted_with_pin s.sensor t) s
unfolding present_next applied heated
own-temperature n t s h = present-next n _ s (sensing-present s h) ∙ rw (eq-eqb n n refl, h)

-- "kind 9: slot without sensor" is refused, and would change nothing
pub no-temperature : (n : ℕ) (k : SlotNo) (t : ℤ) (s : Slot) → sensing s ≡ false → slot_next n (Apply k (Temperature t)) s ≡ s
unfolding present_next applied heated
no-temperature n k t s h =
    next-cases (λ (r : Slot). r ≡ s) n (Apply k (Temperature t)) s (λ a. refl) (λ a. cond_cases (λ (r : Slot). r ≡ s) (eqb k.0 n) (λ e. rw h) (λ e. refl))

-- P9: "New event kind 10 sets the write-protect pin", of an older module alone
pub own-pin : (n : ℕ) (on : Bool) (s : Slot) → older s ≡ true → slot_next n (Apply (record { 0 = n }) (WriteProtect on)) s ≡ with_old (with_pin on s.old) s
unfolding present_next applied shielded
own-pin n on s h = present-next n _ s (older-present s h) ∙ rw (eq-eqb n n refl, h)

pub no_pin : (n : ℕ) (k : SlotNo) (on : Bool) (s : Slot) → older s ≡ false → slot_next n (Apply k (WriteProtect on)) s ≡ s
unfolding present_next applied shielded
no_pin n k on s h =
    next-cases (λ (r : Slot). r ≡ s) n (Apply k (WriteProtect on)) s (λ a. refl) (λ a. cond_cases (λ (r : Slot). r ≡ s) (eqb k.0 n) (λ e. rw h) (λ e. refl))
