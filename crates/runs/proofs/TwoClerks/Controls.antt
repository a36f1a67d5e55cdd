-- The control bytes of an exchange are the bytes at which a present slot awaits one: what `controls` counts is what the machine does.
-- Assumes nothing.
use Prim.Native.Nat.{ℕ}
use mathlib.Core.Path.{◌≡◌, refl, sym, ◌∙◌, ap}
use mathlib.Core.Bool.{Bool, true, false, not, cond, ◌&&◌}
use mathlib.Core.List.{List, [], ◌∷◌}
use lib.Dec.{leb}
use Rattle.proof_lists.specs.Tests.{cond_cases}
use Rattle.rules.specs.declared.Act.TheVariants.{Start, Byte, Read}
use Rattle.rules.specs.declared.Heard.{Heard}
use Rattle.rules.specs.declared.Heard.TheVariants.{Memory, Sensor, Protect, ClearAll, ReadProtection, SelectHalf, ReadHalf, ProtectForEver, Nothing}
use Rattle.rules.specs.declared.Phase.{Phase}
use Rattle.rules.specs.declared.Phase.TheVariants.{Idle, Control, Deaf, MemoryCounter, MemoryData, MemoryRead, HalfSelected, CommandAddress, CommandData, CommandStop, SensorPointer, SensorHigh, SensorLow, SensorReadHigh, SensorReadLow}
use Rattle.rules.specs.declared.Slot.{Slot}
use Rattle.rules.specs.Modelled.{absent, sensing}
use Rattle.rules.specs.Open.{open-fields}
use Rattle.rules.specs.Fields.{in_phase}
use Rattle.rules.specs.Control.{acks_control, obeyed, controlled, heard_by}
use Rattle.rules.specs.Memory.{loaded, guarded, latching, data_byte, fetched}
use Rattle.rules.specs.Slot.{with_sensor_in, standing, lost, pointer, first_byte, second_byte, byte_in, read_in, present_next, slot_next}
use Rattle.rules.proofs.Memory.Protection.{still-present}
use Rattle.rules.proofs.Run.Cases.{present-next}
use Rattle.runs.specs.Exchanges.{Inside, again, byte, read, inside_act, controls}

abbrev awaiting : Phase → Bool
awaiting Idle = false
awaiting Control = true
awaiting Deaf = false
awaiting MemoryCounter = false
awaiting MemoryData = false
awaiting MemoryRead = false
awaiting HalfSelected = false
awaiting CommandAddress = false
awaiting CommandData = false
awaiting CommandStop = false
awaiting SensorPointer = false
awaiting SensorHigh = false
awaiting SensorLow = false
awaiting SensorReadHigh = false
awaiting SensorReadLow = false

-- the bytes at which slot n stands before its control byte
unfoldable pub seen : ℕ → List Inside → Slot → List ℕ
seen n [] s = []
seen n (again ∷ xs) s = seen n xs (slot_next n (inside_act again) s)
seen n (byte b ∷ xs) s = cond (awaiting (standing s)) (b ∷ seen n xs (slot_next n (inside_act (byte b)) s)) (seen n xs (slot_next n (inside_act (byte b)) s))
seen n (read m ∷ xs) s = seen n xs (slot_next n (inside_act (read m)) s)

-- a slot whose phase is not that before the control byte does not await one
abbrev Served : Slot → Type 0
Served s = awaiting s.phase ≡ false

obeyed-served : (h : Heard) (s : Slot) → Served (obeyed h s)
unfolding obeyed open-fields
obeyed-served (Memory k false) s = refl
obeyed-served (Memory k true) s = refl
obeyed-served (Sensor k false) s = refl
obeyed-served (Sensor k true) s = refl
obeyed-served (Protect k) s = refl
obeyed-served ClearAll s = refl
obeyed-served (ReadProtection k) s = refl
obeyed-served (SelectHalf h) s = refl
obeyed-served ReadHalf s = refl
obeyed-served ProtectForEver s = refl
obeyed-served Nothing s = refl

lost-served : (p : Phase) (s : Slot) → Served (lost p s)
unfolding lost open-fields
lost-served p s = refl

-- after a byte and after a read no control byte is awaited: the phase that stood was another, or is left
byte-served : (p : Phase) (n b : ℕ) (s : Slot) → (awaiting p ≡ false → Served s) → Served (byte_in p n b s)
unfolding byte_in controlled loaded data_byte latching pointer first_byte second_byte open-fields
byte-served Idle n b s h = h refl
byte-served Control n b s h = cond_cases Served (acks_control n b s) (λ e. obeyed-served (heard_by n b s) s) (λ e. refl)
byte-served Deaf n b s h = h refl
byte-served MemoryCounter n b s h = refl
byte-served MemoryData n b s h = cond_cases Served (guarded s) (λ e. refl) (λ e. h refl)
byte-served MemoryRead n b s h = lost-served MemoryRead s
byte-served HalfSelected n b s h = h refl
byte-served CommandAddress n b s h = refl
byte-served CommandData n b s h = refl
byte-served CommandStop n b s h = lost-served CommandStop s
byte-served SensorPointer n b s h = cond_cases Served (leb b 0x09) (λ e. refl) (λ e. lost-served SensorPointer s)
byte-served SensorHigh n b s h = refl
byte-served SensorLow n b s h = lost-served SensorLow _
byte-served SensorReadHigh n b s h = lost-served SensorReadHigh s
byte-served SensorReadLow n b s h = lost-served SensorReadLow s

read-served : (p : Phase) (m : Bool) (s : Slot) → (awaiting p ≡ false → Served s) → Served (read_in p m s)
unfolding read_in fetched open-fields
read-served Idle m s h = h refl
read-served Control m s h = refl
read-served Deaf m s h = h refl
read-served MemoryCounter m s h = lost-served MemoryCounter s
read-served MemoryData m s h = lost-served MemoryData s
read-served MemoryRead m s h = cond_cases (λ (p : Phase). awaiting p ≡ false) m (λ e. refl) (λ e. refl)
read-served HalfSelected m s h = lost-served HalfSelected s
read-served CommandAddress m s h = lost-served CommandAddress s
read-served CommandData m s h = lost-served CommandData s
read-served CommandStop m s h = lost-served CommandStop s
read-served SensorPointer m s h = lost-served SensorPointer s
read-served SensorHigh m s h = lost-served SensorHigh s
read-served SensorLow m s h = lost-served SensorLow s
read-served SensorReadHigh m s h = cond_cases Served m (λ e. refl) (λ e. lost-served SensorReadHigh s)
read-served SensorReadLow m s h = lost-served SensorReadLow s

-- a present slot stands before its control byte exactly if that is its phase
awaits-phase : (p : Phase) (q : Bool) → awaiting (cond (with_sensor_in p && q) Deaf p) ≡ awaiting p
awaits-phase Idle b = refl
awaits-phase Control b = refl
awaits-phase Deaf b = refl
awaits-phase MemoryCounter b = refl
awaits-phase MemoryData b = refl
awaits-phase MemoryRead b = refl
awaits-phase HalfSelected b = refl
awaits-phase CommandAddress b = refl
awaits-phase CommandData b = refl
awaits-phase CommandStop b = refl
awaits-phase SensorPointer b = cond_cases (λ (p : Phase). awaiting p ≡ false) b (λ e. refl) (λ e. refl)
awaits-phase SensorHigh b = cond_cases (λ (p : Phase). awaiting p ≡ false) b (λ e. refl) (λ e. refl)
awaits-phase SensorLow b = cond_cases (λ (p : Phase). awaiting p ≡ false) b (λ e. refl) (λ e. refl)
awaits-phase SensorReadHigh b = cond_cases (λ (p : Phase). awaiting p ≡ false) b (λ e. refl) (λ e. refl)
awaits-phase SensorReadLow b = cond_cases (λ (p : Phase). awaiting p ≡ false) b (λ e. refl) (λ e. refl)

present-awaits : (s : Slot) → absent s ≡ false → awaiting (standing s) ≡ awaiting s.phase
unfolding standing
present-awaits s a = rw a (awaits-phase s.phase (not (sensing s)))

after-byte : (n b : ℕ) (s : Slot) → absent s ≡ false → Served (slot_next n (Byte b) s)
unfolding present_next
after-byte n b s a = rw (present-next n (Byte b) s a) (byte-served (standing s) n b s (λ e. sym (present-awaits s a) ∙ e))

after_read : (n : ℕ) (m : Bool) (s : Slot) → absent s ≡ false → Served (slot_next n (Read m) s)
unfolding present_next
after_read n m s a = rw (present-next n (Read m) s a) (read-served (standing s) m s (λ e. sym (present-awaits s a) ∙ e))

pub controls-seen : (n : ℕ) (fresh : Bool) (xs : List Inside) (s : Slot) → absent s ≡ false → awaiting s.phase ≡ fresh → seen n xs s ≡ controls fresh xs
unfolding seen controls inside_act
controls-seen n fresh [] s a e = refl
controls-seen n fresh (again ∷ xs) s a e = controls-seen n true xs (slot_next n Start s) (still-present n Start s a) (unfold present_next in_phase in ap (λ (t : Slot). awaiting t.phase) (present-next n Start s a))
controls-seen n true (byte b ∷ xs) s a e = rw (present-awaits s a, e) (ap (b ∷◌) (controls-seen n false xs (slot_next n (Byte b) s) (still-present n (Byte b) s a) (after-byte n b s a)))
controls-seen n false (byte b ∷ xs) s a e = rw (present-awaits s a, e) (controls-seen n false xs (slot_next n (Byte b) s) (still-present n (Byte b) s a) (after-byte n b s a))
controls-seen n fresh (read m ∷ xs) s a e = controls-seen n false xs (slot_next n (Read m) s) (still-present n (Read m) s a) (after_read n m s a)
