-- When a slot's protection changes, and who decides to what: each step is calm, or is a tick, a power cycle, or a control byte that the slot acknowledges.
-- P9: so with what is permanent, and when the write-protect pin changes.
-- Assumes nothing.
use Prim.Native.Nat.{ℕ, ◌+◌, ◌-◌, ◌*◌, ◌/◌}
use native.Mathlib.Omega.{arith}
use mathlib.Core.Path.{◌≡◌, refl, sym, ap, ◌∙◌}
use mathlib.Core.Logic.{◌⊎◌, inl, inr, ⊎_elim}
use mathlib.Core.Bool.{Bool, true, false, not, cond, ◌&&◌, and-false}
use mathlib.Core.List.{List, map}
use lib.Dec.{eqb, leb}
use lib.ListN.{length, set}
use borrow.Author.Tests.{eqb-true}
use Rattle.proof_lists.specs.Tests.{cond_cases}
use Rattle.proof_lists.specs.Each.{length-map_from, map-map_from}
use Rattle.rules.specs.declared.Act.{Act}
use Rattle.rules.specs.declared.Act.TheVariants.{Start, Byte, Read, Stop, Timeout, Tick, Power, Apply}
use Rattle.rules.specs.declared.Applied.TheVariants.{Voltage, Temperature, WriteProtect}
use Rattle.rules.specs.declared.BlockNo.{BlockNo}
use Rattle.rules.specs.declared.Bus.{Bus}
use Rattle.rules.specs.declared.Cut.{Cut}
use Rattle.rules.specs.declared.Event.{Event}
use Rattle.rules.specs.declared.Heard.{Heard}
use Rattle.rules.specs.declared.Heard.TheVariants.{Memory, Sensor, Protect, ClearAll, ReadProtection, SelectHalf, ReadHalf, ProtectForEver, Nothing}
use Rattle.rules.specs.declared.Phase.{Phase}
use Rattle.rules.specs.declared.Phase.TheVariants.{Idle, Control, Deaf, MemoryCounter, MemoryData, MemoryRead, HalfSelected, CommandAddress, CommandData, CommandStop, SensorPointer, SensorHigh, SensorLow, SensorReadHigh, SensorReadLow}
use Rattle.rules.specs.declared.Slot.{Slot}
use Rattle.rules.specs.Fields.{in_phase, with_voltage, with_sensor}
use Rattle.rules.specs.Fresh.{no_blocks, fresh_slot, powered}
use Rattle.rules.specs.Pin.{written_with_pin}
use Rattle.rules.specs.Control.{acks_control, obeyed, controlled, heard_by}
use Rattle.rules.specs.Modelled.{absent, older}
use Rattle.rules.specs.Memory.{cancelled, guarded, any_mark, ticked, pin_on, brought, permanent_then}
use Rattle.rules.specs.Slot.{standing, commanding, let_go, byte_in, read_in, stop_in, present_next, slot_next, acks_in, acks, endures}
use Rattle.rules.specs.Bus.{bus_next}
use Rattle.rules.specs.Refusals.{kinds_of}
use Rattle.rules.specs.Runs.{Bench, taken, next, after}
use Rattle.rules.specs.Power.{running, finished, power_cut}
use Rattle.rules.specs.Open.{open-fields, open-memory, open-slot}
use Rattle.rules.proofs.Run.Cases.{next-cases, heated-cases, absent-newer, let-go-cases}
use Rattle.rules.proofs.Run.Unchanged.{same_next, same_after}
use Rattle.rules.proofs.Memory.Stored.{ends, storing, finishes}

-- What decides the protection to come, when slot n is s and the act is a; after it `stands` is protected, and `comes` is to come, `lasts` whether it will be
-- permanent.
pub data Decided (n : ℕ) (a : Act) (s : Slot) (stands comes : List Bool) (lasts : Bool) : Type 0 where
  as_before : comes ≡ s.coming → lasts ≡ s.old.lasting → Decided n a s stands comes lasts
  as_stands : comes ≡ stands → lasts ≡ false → Decided n a s stands comes lasts
  by_protect : (b : ℕ) (k : BlockNo) → a ≡ Byte b → standing s ≡ Control → acks n b s ≡ true → heard_by n b s ≡ Protect k
      → comes ≡ set s.protection k.0 true → lasts ≡ false → Decided n a s stands comes lasts
  by_clear : (b : ℕ) → a ≡ Byte b → standing s ≡ Control → acks n b s ≡ true → heard_by n b s ≡ ClearAll → comes ≡ no_blocks → lasts ≡ false
      → Decided n a s stands comes lasts
  by_lasting : (b : ℕ) → a ≡ Byte b → standing s ≡ Control → acks n b s ≡ true → heard_by n b s ≡ ProtectForEver
      → comes ≡ set s.protection 0 true → lasts ≡ true → Decided n a s stands comes lasts

-- What becomes of the write cycle when the slot is s and the act is a, and `left` ticks are left after it: only a stop begins one, of a page
-- write or of a protect or clear with both its bytes; only a tick goes on with it, and only power cuts it short.
pub data Cycle (a : Act) (s : Slot) (left : ℕ) : Type 0 where
  as_was : left ≡ s.left → Cycle a s left
  page_begins : a ≡ Stop → standing s ≡ MemoryData → any_mark s.marks ≡ true → left ≡ s.length → Cycle a s left
  command_begins : a ≡ Stop → standing s ≡ CommandStop → pin_on s ≡ false → left ≡ s.length → Cycle a s left
  goes_on : a ≡ Tick → left ≡ s.left - 1 → Cycle a s left
  power_ends : (k : Cut) → a ≡ Power k → left ≡ 0 → Cycle a s left

-- the write-protect pin after an act: only its own event moves it, of an older module
unfoldable pub pressed : ℕ → Act → Slot → Bool
pressed n Start s = s.old.pin
pressed n (Byte b) s = s.old.pin
pressed n (Read more) s = s.old.pin
pressed n Stop s = s.old.pin
pressed n Timeout s = s.old.pin
pressed n Tick s = s.old.pin
pressed n (Power k) s = s.old.pin
pressed n (Apply k (Voltage on)) s = s.old.pin
pressed n (Apply k (Temperature t)) s = s.old.pin
pressed n (Apply k (WriteProtect on)) s = cond (eqb k.0 n && older s) on s.old.pin

-- what an act does to those fields of a slot that outlast an exchange
record Step (n : ℕ) (a : Act) (s r : Slot) : Type 0 where
  kind : r.kind ≡ s.kind
  length : r.length ≡ s.length
  protection : r.protection ≡ cond (finishes a s && not (absent s)) (brought s) s.protection
  permanent : r.old.permanent ≡ cond (finishes a s && not (absent s)) (permanent_then s) s.old.permanent
  coming : Decided n a s r.protection r.coming r.old.lasting
  pin : r.old.pin ≡ pressed n a s
  cycle : Cycle a s r.left

-- nothing decided: what is to come stays, or is dropped. As fields alone, so that a step which replaces others needs no word.
abbrev Calm : Slot → Slot → Type 0
Calm s r =
    (r.kind ≡ s.kind) × (r.length ≡ s.length) × (r.protection ≡ s.protection)
    × (((r.coming ≡ s.coming) × (r.old.lasting ≡ s.old.lasting)) ⊎ ((r.coming ≡ r.protection) × (r.old.lasting ≡ false)))
    × (r.left ≡ s.left) × (r.old.permanent ≡ s.old.permanent) × (r.old.pin ≡ s.old.pin)

kept : (s : Slot) → Calm s s
kept s = (refl, refl, refl, inl (refl, refl), refl, refl, refl)

dropped : (s : Slot) → Calm s (cancelled s)
unfolding open-fields open-memory
dropped s = (refl, refl, refl, inr (refl, refl), refl, refl, refl)

-- an exchange that ends early
gone : (p : Phase) (s : Slot) → Calm s (let_go p s)
unfolding open-fields open-memory
gone p s = let-go-cases (Calm s) p s (kept s) (dropped s) (kept s) (kept s)

-- a read in each phase
read-calm : (p : Phase) (more : Bool) (s : Slot) → Calm s (read_in p more s)
unfolding open-fields open-memory open-slot
read-calm Idle more s = kept s
read-calm Control more s = kept s
read-calm Deaf more s = kept s
read-calm MemoryCounter more s = gone MemoryCounter s
read-calm MemoryData more s = gone MemoryData s
read-calm MemoryRead more s = kept s
read-calm HalfSelected more s = gone HalfSelected s
read-calm CommandAddress more s = gone CommandAddress s
read-calm CommandData more s = gone CommandData s
read-calm CommandStop more s = gone CommandStop s
read-calm SensorPointer more s = gone SensorPointer s
read-calm SensorHigh more s = gone SensorHigh s
read-calm SensorLow more s = gone SensorLow s
read-calm SensorReadHigh more s = cond_cases (Calm s) more (λ e. kept s) (λ e. gone SensorReadHigh s)
read-calm SensorReadLow more s = gone SensorReadLow s

-- a calm step is as it should be, unless the act finishes a cycle or moves the pin
calm : {n : ℕ} (a : Act) {s r : Slot} → finishes a s ≡ false → pressed n a s ≡ s.old.pin → Calm s r → Step n a s r
calm a t p c = record {
  kind = c.0;
  length = c.1;
  protection = rw t c.2;
  permanent = rw t c.5;
  coming = ⊎_elim (λ e. as_before e.0 e.1) (λ e. as_stands e.0 e.1) c.3;
  pin = c.6 ∙ sym p;
  cycle = as_was c.4;
}

module _ (n b : ℕ) (s : Slot) where
  quiet : {r : Slot} → Calm s r → Step n (Byte b) s r
  unfolding finishes ends pressed
  quiet = calm (Byte b) refl refl

  -- the control byte that the slot acknowledges
  heard-step : (h : Heard) → standing s ≡ Control → acks n b s ≡ true → heard_by n b s ≡ h → Step n (Byte b) s (obeyed h s)
  unfolding open-fields obeyed finishes ends pressed
  heard-step (Memory k false) p a e = quiet (kept s)
  heard-step (Memory k true) p a e = quiet (kept s)
  heard-step (Sensor k false) p a e = quiet (kept s)
  heard-step (Sensor k true) p a e = quiet (kept s)
  heard-step (Protect k) p a e = record { kind = refl; length = refl; protection = refl; permanent = refl; coming = by_protect b k refl p a e refl refl; pin = refl; cycle = as_was refl }
  heard-step ClearAll p a e = record { kind = refl; length = refl; protection = refl; permanent = refl; coming = by_clear b refl p a e refl refl; pin = refl; cycle = as_was refl }
  heard-step (ReadProtection k) p a e = quiet (kept s)
  heard-step (SelectHalf h) p a e = quiet (kept s)
  heard-step ReadHalf p a e = quiet (kept s)
  heard-step ProtectForEver p a e = record { kind = refl; length = refl; protection = refl; permanent = refl; coming = by_lasting b refl p a e refl refl; pin = refl; cycle = as_was refl }
  heard-step Nothing p a e = quiet (kept s)

  -- a byte in each phase
  byte_step : (p : Phase) → standing s ≡ p → Step n (Byte b) s (byte_in p n b s)
  unfolding open-fields open-memory open-slot controlled
  byte_step Idle p = quiet (kept s)
  byte_step Control p =
      cond_cases (Step n (Byte b) s) (acks_control n b s) (λ a. heard-step (heard_by n b s) p (ap (λ (q : Phase). acks_in q n b s) p ∙ a) refl) (λ a. quiet (kept s))
  byte_step Deaf p = quiet (kept s)
  byte_step MemoryCounter p = quiet (kept s)
  byte_step MemoryData p = quiet (cond_cases (Calm s) (guarded s) (λ e. kept s) (λ e. kept s))
  byte_step MemoryRead p = quiet (gone MemoryRead s)
  byte_step HalfSelected p = quiet (kept s)
  byte_step CommandAddress p = quiet (kept s)
  byte_step CommandData p = quiet (kept s)
  byte_step CommandStop p = quiet (gone CommandStop s)
  byte_step SensorPointer p = quiet (cond_cases (Calm s) (leb b 0x09) (λ e. kept s) (λ e. gone SensorPointer s))
  byte_step SensorHigh p = quiet (kept s)
  byte_step SensorLow p = quiet (gone SensorLow (with_sensor (written_with_pin s.sensor s.sensor.pointer (s.sensor.word / 256 * 256 + b)) s))
  byte_step SensorReadHigh p = quiet (gone SensorReadHigh s)
  byte_step SensorReadLow p = quiet (gone SensorReadLow s)

tick-step : (n : ℕ) (s : Slot) → absent s ≡ false → Step n Tick s (ticked s)
unfolding open-fields open-memory finishes ends storing pressed
tick-step n s a = cond_cases (Step n Tick s) (eqb s.left 1)
    (λ e. record { kind = refl; length = refl; protection = rw (a, e); permanent = rw (a, e); coming = as_stands refl refl; pin = refl; cycle = goes_on refl (ends (eqb-true s.left 1 e)) })
    (λ e. record { kind = refl; length = refl; protection = rw (a, e); permanent = rw (a, e); coming = as_before refl refl; pin = refl; cycle = goes_on refl refl })
  where
    ends : s.left ≡ 1 → 0 ≡ s.left - 1
    ends e = omega arith

-- a power cycle: a running cycle ends, and brings what was to come unless its number is 0
power-step : (n : ℕ) (k : Cut) (s : Slot) → absent s ≡ false → Step n (Power k) s (power_cut k s)
unfolding open-fields open-memory power_cut powered finished fresh_slot finishes ends storing pressed
power-step n k s a = cond_cases (λ (r : Slot). Step n (Power k) s (powered r)) (running s && not (eqb k.0 0))
    (λ e. record { kind = refl; length = refl; protection = rw (a, e); permanent = rw (a, e); coming = as_stands refl refl; pin = refl; cycle = power_ends k refl refl })
    (λ e. record { kind = refl; length = refl; protection = rw (a, e); permanent = rw (a, e); coming = as_stands refl refl; pin = refl; cycle = power_ends k refl refl })

-- a stop in each phase
stop_step : (n : ℕ) (p : Phase) (s : Slot) → standing s ≡ p → Step n Stop s (in_phase Idle (stop_in p s))
unfolding open-fields open-memory open-slot finishes ends pressed
stop_step n Idle s e = calm Stop refl refl (kept s)
stop_step n Control s e = calm Stop refl refl (kept s)
stop_step n Deaf s e = calm Stop refl refl (kept s)
stop_step n MemoryCounter s e = calm Stop refl refl (kept s)
stop_step n MemoryData s e = cond_cases (λ (r : Slot). Step n Stop s (in_phase Idle r)) (any_mark s.marks)
    (λ m. record { kind = refl; length = refl; protection = refl; permanent = refl; coming = as_stands refl refl; pin = refl; cycle = page_begins refl e m refl }) (λ m. calm Stop refl refl (kept s))
stop_step n MemoryRead s e = calm Stop refl refl (kept s)
stop_step n HalfSelected s e = calm Stop refl refl (kept s)
stop_step n CommandAddress s e = calm Stop refl refl (dropped s)
stop_step n CommandData s e = calm Stop refl refl (dropped s)
stop_step n CommandStop s e = cond_cases (λ (r : Slot). Step n Stop s (in_phase Idle r)) (pin_on s) (λ p. calm Stop refl refl (dropped s))
    (λ p. record { kind = refl; length = refl; protection = refl; permanent = refl; coming = as_before refl refl; pin = refl; cycle = command_begins refl e p refl })
stop_step n SensorPointer s e = calm Stop refl refl (gone SensorPointer s)
stop_step n SensorHigh s e = calm Stop refl refl (gone SensorHigh s)
stop_step n SensorLow s e = calm Stop refl refl (gone SensorLow s)
stop_step n SensorReadHigh s e = calm Stop refl refl (gone SensorReadHigh s)
stop_step n SensorReadLow s e = calm Stop refl refl (gone SensorReadLow s)

present-step : (n : ℕ) (a : Act) (s : Slot) → absent s ≡ false → Step n a s (present_next n a s)
unfolding open-fields open-memory open-slot power_cut powered fresh_slot finishes ends pressed
present-step n Start s h = calm Start refl refl (gone (standing s) s)
present-step n (Byte b) s h = byte_step n b s (standing s) refl
present-step n (Read more) s h = calm (Read more) refl refl (read-calm (standing s) more s)
present-step n Stop s h = stop_step n (standing s) s refl
present-step n Timeout s h = calm Timeout refl refl (gone (standing s) s)
present-step n Tick s h = tick-step n s h
present-step n (Power k) s h = power-step n k s h
present-step n (Apply k (Voltage on)) s h =
    calm (Apply k (Voltage on)) refl refl (cond_cases (Calm s) (eqb k.0 n)
    (λ e. cond_cases (λ (r : Slot). Calm s (with_voltage on r)) (commanding (standing s) && s.voltage && not on && not (endures s)) (λ e. gone (standing s) s) (λ e. kept s)) (λ e. kept s))
present-step n (Apply k (Temperature t)) s h =
    calm (Apply k (Temperature t)) refl refl (cond_cases (Calm s) (eqb k.0 n) (λ e. heated-cases (Calm s) t s (kept s) (kept s)) (λ e. kept s))
present-step n (Apply k (WriteProtect on)) s h = cond_cases (Step n (Apply k (WriteProtect on)) s) (eqb k.0 n)
    (λ e. cond_cases (Step n (Apply k (WriteProtect on)) s) (older s)
    (λ o. record { kind = refl; length = refl; protection = refl; permanent = refl; coming = as_before refl refl; pin = rw (e, o); cycle = as_was refl })
    (λ o. calm (Apply k (WriteProtect on)) refl (rw (e, o)) (kept s)))
    (λ e. calm (Apply k (WriteProtect on)) refl (rw e) (kept s))

-- an absent slot has no such pin
unpressed : (n : ℕ) (a : Act) (s : Slot) → absent s ≡ true → pressed n a s ≡ s.old.pin
unfolding pressed
unpressed n Start s e = refl
unpressed n (Byte b) s e = refl
unpressed n (Read more) s e = refl
unpressed n Stop s e = refl
unpressed n Timeout s e = refl
unpressed n Tick s e = refl
unpressed n (Power k) s e = refl
unpressed n (Apply k (Voltage on)) s e = refl
unpressed n (Apply k (Temperature t)) s e = refl
unpressed n (Apply k (WriteProtect on)) s e = rw (absent-newer s e, and-false (eqb k.0 n))

untouched : (n : ℕ) (a : Act) (s : Slot) → absent s ≡ true → Step n a s s
untouched n a s e = record { kind = refl; length = refl; protection = rw (e, and-false); permanent = rw (e, and-false); coming = as_before refl refl; pin = sym (unpressed n a s e); cycle = as_was refl }

slot_step : (n : ℕ) (a : Act) (s : Slot) → Step n a s (slot_next n a s)
slot_step n a s = next-cases (Step n a s) n a s (untouched n a s) (present-step n a s)

-- protection changes only at the tick or the power cycle that ends a cycle, and then to what it brings: what was to come, of an older module bit 0 alone
pub protection-next : (n : ℕ) (a : Act) (s : Slot) → (slot_next n a s).protection ≡ cond (finishes a s && not (absent s)) (brought s) s.protection
protection-next n a s = (slot_step n a s).protection

-- P9: what is permanent comes at the same tick or power cycle, and nothing takes it away
pub permanent-next : (n : ℕ) (a : Act) (s : Slot)
    → (slot_next n a s).old.permanent ≡ cond (finishes a s && not (absent s)) (permanent_then s) s.old.permanent
permanent-next n a s = (slot_step n a s).permanent

-- "Power keeps the pin.", and so does all else but its own event
pub pin-next : (n : ℕ) (a : Act) (s : Slot) → (slot_next n a s).old.pin ≡ pressed n a s
pin-next n a s = (slot_step n a s).pin

-- what is to come is decided by protect, clear and the lasting form alone
pub coming-next : (n : ℕ) (a : Act) (s : Slot) → Decided n a s (slot_next n a s).protection (slot_next n a s).coming (slot_next n a s).old.lasting
coming-next n a s = (slot_step n a s).coming

-- and what becomes of a write cycle
pub cycle-next : (n : ℕ) (a : Act) (s : Slot) → Cycle a s (slot_next n a s).left
cycle-next n a s = (slot_step n a s).cycle

pub kind-next : (n : ℕ) (a : Act) (s : Slot) → (slot_next n a s).kind ≡ s.kind
kind-next n a s = (slot_step n a s).kind

pub still-present : (n : ℕ) (a : Act) (s : Slot) → absent s ≡ false → absent (slot_next n a s) ≡ false
unfolding absent
still-present n a s e = rw (kind-next n a s) e

pub length-next : (n : ℕ) (a : Act) (s : Slot) → (slot_next n a s).length ≡ s.length
length-next n a s = (slot_step n a s).length

-- what no act changes of a slot, no event and no run changes of any slot
module _ (g : Slot → ℕ) (same : (n : ℕ) (a : Act) (s : Slot) → g (slot_next n a s) ≡ g s) where
  each-bus : (a : Act) (b : Bus) → map g (bus_next a b).slots ≡ map g b.slots
  unfolding bus_next
  each-bus a b = map-map_from g (λ n s. slot_next n a s) (λ n s. same n a s) 0 b.slots

  each-taken : (a : Act) (x : Bench) → map g (taken a x).bus.slots ≡ map g x.bus.slots
  unfolding taken
  each-taken a x = each-bus a x.bus

  each_next : (e : Event) (x : Bench) → map g (next e x).bus.slots ≡ map g x.bus.slots
  each_next = same_next (λ (x : Bench). map g x.bus.slots) each-taken

  each_after : (es : List Event) (x : Bench) → map g (after es x).bus.slots ≡ map g x.bus.slots
  each_after = same_after (λ (x : Bench). map g x.bus.slots) each-taken

-- the slots' kinds, on which refusals go
pub kinds-bus : (a : Act) (b : Bus) → kinds_of (bus_next a b) ≡ kinds_of b
unfolding kinds_of
kinds-bus = each-bus (λ (s : Slot). s.kind) kind-next

pub kinds-next : (e : Event) (x : Bench) → kinds_of (next e x).bus ≡ kinds_of x.bus
unfolding kinds_of
kinds-next = each_next (λ (s : Slot). s.kind) kind-next

pub kinds-after : (es : List Event) (x : Bench) → kinds_of (after es x).bus ≡ kinds_of x.bus
unfolding kinds_of
kinds-after = each_after (λ (s : Slot). s.kind) kind-next

-- the lengths of their write cycles
unfoldable pub lengths_of : Bus → List ℕ
lengths_of b = map (λ (s : Slot). s.length) b.slots

pub lengths-bus : (a : Act) (b : Bus) → lengths_of (bus_next a b) ≡ lengths_of b
unfolding lengths_of
lengths-bus = each-bus (λ (s : Slot). s.length) length-next

pub lengths-next : (e : Event) (x : Bench) → lengths_of (next e x).bus ≡ lengths_of x.bus
unfolding lengths_of
lengths-next = each_next (λ (s : Slot). s.length) length-next

pub lengths-after : (es : List Event) (x : Bench) → lengths_of (after es x).bus ≡ lengths_of x.bus
unfolding lengths_of
lengths-after = each_after (λ (s : Slot). s.length) length-next

-- and their number
pub number-taken : (a : Act) (x : Bench) → length (taken a x).bus.slots ≡ length x.bus.slots
unfolding taken bus_next
number-taken a x = length-map_from (λ n s. slot_next n a s) 0 x.bus.slots

pub number-next : (e : Event) (x : Bench) → length (next e x).bus.slots ≡ length x.bus.slots
number-next = same_next (λ (x : Bench). length x.bus.slots) number-taken

pub number-after : (es : List Event) (x : Bench) → length (after es x).bus.slots ≡ length x.bus.slots
number-after = same_after (λ (x : Bench). length x.bus.slots) number-taken
