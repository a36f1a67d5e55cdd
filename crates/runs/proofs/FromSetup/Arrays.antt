-- The latch of a slot and its marks have sixteen elements, as document 01's form says; every act keeps that, so it holds after any run from setup.
-- Assumes nothing.
use Prim.Native.Nat.{ℕ}
use mathlib.Core.Path.{◌≡◌, refl, ◌∙◌}
use mathlib.Core.Bool.{Bool, true, false}
use mathlib.Core.List.{List}
use lib.Dec.{eqb, leb}
use lib.ListN.{length, length-set}
use Rattle.proof_lists.specs.Tests.{cond_cases}
use Rattle.rules.specs.declared.Act.{Act}
use Rattle.rules.specs.declared.Act.TheVariants.{Start, Byte, Read, Stop, Timeout, Tick, Power, Apply}
use Rattle.rules.specs.declared.Event.{Event}
use Rattle.rules.specs.declared.Heard.{Heard}
use Rattle.rules.specs.declared.Heard.TheVariants as heard
use Rattle.rules.specs.declared.Pair.{Pair}
use Rattle.rules.specs.declared.Phase.{Phase}
use Rattle.rules.specs.declared.Phase.TheVariants.{Idle, Control, Deaf, MemoryCounter, MemoryData, MemoryRead, HalfSelected, CommandAddress, CommandData, CommandStop, SensorPointer, SensorHigh, SensorLow, SensorReadHigh, SensorReadLow}
use Rattle.rules.specs.declared.Slot.{Slot}
use Rattle.rules.specs.Open.{open-fields, open-memory}
use Rattle.rules.specs.Fresh.{fresh_slot, setup_slot, absent_slot, powered}
use Rattle.rules.specs.Control.{acks_control, obeyed, controlled, heard_by}
use Rattle.rules.specs.Memory.{guarded, any_mark, pin_on}
use Rattle.rules.specs.Power.{power_cut}
use Rattle.rules.specs.Slot.{standing, let_go, lost, pointer, first_byte, second_byte, byte_in, read_in, stop_in, switched, present_next, slot_next}
use Rattle.rules.specs.Refusals.{setup_of}
use Rattle.rules.specs.Runs.{after}
use Rattle.rules.proofs.Run.Cases.{next-cases, apply-cases, let-go-cases}
use Rattle.rules.proofs.Run.Everywhere.{Everywhere, after-everywhere, setup-everywhere}

abbrev pub Sixteen : Slot → Type 0
Sixteen s = (length s.latch ≡ 16) × (length s.marks ≡ 16)

-- what a byte, a read and a stop leave, by the phase that the slot stands in
module _ (n : ℕ) (s : Slot) (h : Sixteen s) where
  let-go-keeps : (p : Phase) → Sixteen (let_go p s)
  unfolding open-memory open-fields
  let-go-keeps p = let-go-cases Sixteen p s h h (refl, refl) h

  obeyed-keeps : (x : Heard) → Sixteen (obeyed x s)
  unfolding obeyed open-fields
  obeyed-keeps (heard.Memory k false) = h
  obeyed-keeps (heard.Memory k true) = h
  obeyed-keeps (heard.Sensor k false) = h
  obeyed-keeps (heard.Sensor k true) = h
  obeyed-keeps (heard.Protect k) = h
  obeyed-keeps heard.ClearAll = h
  obeyed-keeps (heard.ReadProtection k) = h
  obeyed-keeps (heard.SelectHalf x) = h
  obeyed-keeps heard.ReadHalf = h
  obeyed-keeps heard.ProtectForEver = h
  obeyed-keeps heard.Nothing = h

  byte-keeps : (p : Phase) (b : ℕ) → Sixteen (byte_in p n b s)
  unfolding byte_in controlled pointer first_byte second_byte lost let_go open-memory open-fields
  byte-keeps Idle b = h
  byte-keeps Control b = cond_cases Sixteen (acks_control n b s) (λ e. obeyed-keeps (heard_by n b s)) (λ e. h)
  byte-keeps Deaf b = h
  byte-keeps MemoryCounter b = h
  byte-keeps MemoryData b = cond_cases Sixteen (guarded s) (λ e. (refl, refl)) (λ e. (length-set s.latch _ b ∙ h.0, length-set s.marks _ true ∙ h.1))
  byte-keeps MemoryRead b = h
  byte-keeps HalfSelected b = h
  byte-keeps CommandAddress b = h
  byte-keeps CommandData b = h
  byte-keeps CommandStop b = h
  byte-keeps SensorPointer b = cond_cases Sixteen (leb b 0x09) (λ e. h) (λ e. h)
  byte-keeps SensorHigh b = h
  byte-keeps SensorLow b = h
  byte-keeps SensorReadHigh b = h
  byte-keeps SensorReadLow b = h

  read_keeps : (p : Phase) (more : Bool) → Sixteen (read_in p more s)
  unfolding read_in lost let_go open-memory open-fields
  read_keeps Idle more = h
  read_keeps Control more = h
  read_keeps Deaf more = h
  read_keeps MemoryCounter more = h
  read_keeps MemoryData more = (refl, refl)
  read_keeps MemoryRead more = h
  read_keeps HalfSelected more = h
  read_keeps CommandAddress more = h
  read_keeps CommandData more = h
  read_keeps CommandStop more = h
  read_keeps SensorPointer more = h
  read_keeps SensorHigh more = h
  read_keeps SensorLow more = h
  read_keeps SensorReadHigh more = cond_cases Sixteen more (λ e. h) (λ e. h)
  read_keeps SensorReadLow more = h

  stop-keeps : (p : Phase) → Sixteen (stop_in p s)
  unfolding stop_in let_go open-memory open-fields
  stop-keeps Idle = h
  stop-keeps Control = h
  stop-keeps Deaf = h
  stop-keeps MemoryCounter = h
  stop-keeps MemoryData = cond_cases Sixteen (any_mark s.marks) (λ e. h) (λ e. (refl, refl))
  stop-keeps MemoryRead = h
  stop-keeps HalfSelected = h
  stop-keeps CommandAddress = h
  stop-keeps CommandData = h
  stop-keeps CommandStop = cond_cases Sixteen (pin_on s) (λ e. h) (λ e. h)
  stop-keeps SensorPointer = h
  stop-keeps SensorHigh = h
  stop-keeps SensorLow = h
  stop-keeps SensorReadHigh = h
  stop-keeps SensorReadLow = h

  present-keeps : (a : Act) → Sixteen (present_next n a s)
  unfolding present_next switched lost power_cut powered fresh_slot open-memory open-fields
  present-keeps Start = let-go-keeps (standing s)
  present-keeps (Byte b) = byte-keeps (standing s) b
  present-keeps (Read more) = read_keeps (standing s) more
  present-keeps Stop = stop-keeps (standing s)
  present-keeps Timeout = let-go-keeps (standing s)
  present-keeps Tick = cond_cases Sixteen (eqb s.left 1) (λ e. (refl, refl)) (λ e. h)
  present-keeps (Power k) = (refl, refl)
  present-keeps (Apply k x) = apply-cases Sixteen s n k x h (λ on. h) (λ on e. let-go-keeps (standing s)) (λ t e. h) (λ on e. h)

pub slot-sixteen : (n : ℕ) (a : Act) (s : Slot) → Sixteen s → Sixteen (slot_next n a s)
slot-sixteen n a s h = next-cases Sixteen n a s (λ e. h) (λ e. present-keeps n s h a)

fresh-sixteen : (kind long : ℕ) → Sixteen (fresh_slot kind long)
unfolding fresh_slot
fresh-sixteen kind long = (refl, refl)

pub setup-sixteen : (ps : List Pair) (m : List ℕ) → Everywhere Sixteen (record { bus = (setup_of ps).bus; memory = m })
setup-sixteen ps m = setup-everywhere Sixteen (λ p g. unfold setup_slot in fresh-sixteen p.kind _) (unfold absent_slot in fresh-sixteen 0 0) ps

-- Every slot, after any run of events from setup.
pub sixteen : (ps : List Pair) (m : List ℕ) (es : List Event) → Everywhere Sixteen (after es (record { bus = (setup_of ps).bus; memory = m }))
sixteen ps m es = after-everywhere Sixteen slot-sixteen es _ (setup-sixteen ps m)
