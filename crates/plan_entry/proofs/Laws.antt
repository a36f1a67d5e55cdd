-- The definitions in the form in which a function's proof asks for them: a premise for each fact of the way to a return.
-- Assumes nothing.
use Rattle.std.proofs.Common.{◌≡◌, refl, sym, ◌∙◌, ap, ap₂, ℕ, ◌*◌, ◌<◌, Bool, true, false, ◌||◌, List, map, length, get_or, take, drop, replicate, Result, Err, arith}
use Rattle.std.proofs.Math.ListN.{get_or-map}
use borrow.Author.Tests.{lt-ltb, le-ltb}
use Rattle.proof_lists.specs.Each.{list_all-at}
use Rattle.proof_lists.specs.Parts.{part-flat}
use Rattle.rules.specs.declared.Act.TheVariants.{Tick}
use Rattle.rules.specs.declared.Bus.{Bus}
use Rattle.rules.specs.declared.Refusal.{Refusal}
use Rattle.rules.specs.declared.Refusal.TheVariants.{MemoryLength, UnknownKind, WrongSlot, WrongValue, WrongSetup, WrongState, ProtectedPage, Busy, TooShort, WrongForm}
use Rattle.rules.specs.declared.Slot.{Slot}
use Rattle.rules.specs.declared.SlotNo.{SlotNo}
use Rattle.rules.specs.Modelled.{absent, older, memory_bytes, slot_bytes}
use Rattle.rules.specs.Fresh.{fresh_slot, absent_slot}
use Rattle.rules.specs.Events.{refusal_number}
use Rattle.rules.specs.Refusals.{slot_in_range, wrong_length, kinds_of, kind_at, in_range}
use Rattle.rules.specs.Runs.{Bench, slot_after, part_after}
use Rattle.plan_rules.specs.Effect.{SlotTyped}
use Rattle.plan_rules.specs.Plan.{buffer_bytes, wrong_lengths, no_such_slot, forbidden, plan_events, plan_of, plan_number, slot_at, bytes_at}
use Rattle.plan_rules.proofs.Given.{right-lengths, slot-there}
use Rattle.plan_rules.proofs.Settled.{settled-slot, settled-part}
use Rattle.plan_pages.specs.Alone.{alone_of}

-- row 1: where a length is wrong, and where none is
pub wrong-lengths : (m image u : List ℕ) → ((length m ≡ memory_bytes) × (length image ≡ slot_bytes) × (length u ≡ buffer_bytes) → ⊥) → wrong_lengths m image u ≡ true
wrong-lengths m image u h = go (wrong_lengths m image u) refl
  where
    go : (t : Bool) → wrong_lengths m image u ≡ t → wrong_lengths m image u ≡ true
    go true e = e
    go false e = absurd (h (right-lengths m image u e))

pub good-lengths : (m image u : List ℕ) → length m ≡ memory_bytes → length image ≡ slot_bytes → length u ≡ buffer_bytes → wrong_lengths m image u ≡ false
unfolding wrong_lengths wrong_length
good-lengths m image u e f g = rw (e, f, g)

-- row 3: a number above 7, and a slot by its own kind; and what its types say of it
pub missing-above : (k : SlotNo) (b : Bus) → 7 < k.0 → no_such_slot k b ≡ true
unfolding no_such_slot
missing-above k b h = rw (lt-ltb 7 k.0 h)

module _ (k : SlotNo) (b : Bus) (s : Slot) (at : ℕ) (place : at ≡ k.0) (eight : length b.slots ≡ 8) (there : at < length b.slots) (found : s ≡ get_or b.slots at absent_slot) where
  same-slot : get_or b.slots k.0 absent_slot ≡ s
  same-slot = ap (λ (i : ℕ). get_or b.slots i absent_slot) (sym place) ∙ sym found

  pub missing-kind : (absent s || older s) ≡ no_such_slot k b
  unfolding no_such_slot kind_at kinds_of absent_slot fresh_slot absent older
  missing-kind =
      let e : get_or (map (λ (t : Slot). t.kind) b.slots) k.0 0 ≡ s.kind =
      get_or-map (λ (t : Slot). t.kind) b.slots k.0 absent_slot ∙ ap (λ (t : Slot). t.kind) same-slot in
      rw (le-ltb 7 k.0 (omega arith), e)

  pub slot-typed : (length s.latch ≡ 16) × (length s.marks ≡ 16) → SlotTyped b k
  slot-typed h = record {
    slots = eight;
    latch = ap (λ (t : Slot). length t.latch) same-slot ∙ h.0;
    marks = ap (λ (t : Slot). length t.marks) same-slot ∙ h.1;
  }

-- a refusal has a number above 0
pub not-refused : (r : Refusal) (p : Result ℕ Refusal) {A : Type 0} → p ≡ Err r → plan_number p ≡ 0 → A
unfolding plan_number refusal_number
not-refused r p e z = absurd (above r (sym (ap plan_number e) ∙ z))
  where
    above : (r : Refusal) → refusal_number r ≡ 0 → ⊥
    above MemoryLength h = omega arith
    above UnknownKind h = omega arith
    above WrongSlot h = omega arith
    above WrongValue h = omega arith
    above WrongSetup h = omega arith
    above WrongState h = omega arith
    above ProtectedPage h = omega arith
    above Busy h = omega arith
    above TooShort h = omega arith
    above WrongForm h = omega arith

pub slot-ranged : (b : Bus) (s : Slot) (at : ℕ) → at < length b.slots → s ≡ get_or b.slots at absent_slot → in_range b ≡ true → slot_in_range s ≡ true
unfolding in_range
slot-ranged b s at h e r = ap slot_in_range e ∙ list_all-at slot_in_range at b.slots absent_slot h r

-- the entry, row by row
module _ (b : Bus) (m : List ℕ) (k : SlotNo) (image u : List ℕ) where
  pub plan-lengths : wrong_lengths m image u ≡ true → plan_of b m k image u ≡ (Err MemoryLength, u)
  unfolding plan_of
  plan-lengths e = rw e

  module _ (fit : wrong_lengths m image u ≡ false) where
    pub plan-state : in_range b ≡ false → plan_of b m k image u ≡ (Err WrongState, u)
    unfolding plan_of
    plan-state e = rw (fit, e)

    module _ (usual : in_range b ≡ true) where
      pub plan-slot : no_such_slot k b ≡ true → plan_of b m k image u ≡ (Err WrongSlot, u)
      unfolding plan_of
      plan-slot e = rw (fit, usual, e)

      pub plan-alone : (s : Slot) (part wanted : List ℕ) (z : Result ℕ Refusal × List ℕ) → no_such_slot k b ≡ false → s ≡ get_or b.slots k.0 absent_slot
          → part ≡ take 512 (drop (512 * k.0) m) → wanted ≡ image
          → alone_of (slot_after 0 (replicate 5 Tick) s) k.0 (part_after 0 (replicate 5 Tick) s part) wanted u ≡ z
          → plan_of b m k image u ≡ z
      unfolding plan_of forbidden plan_events alone_of slot_at bytes_at
      plan-alone s part wanted z e i f w g =
          let x : Bench = record { bus = b; memory = m } in
          let below : k.0 < length b.slots = slot-there k b e in
          let long : length m ≡ memory_bytes = (right-lengths m image u fit).0 in
          let p : part ≡ bytes_at k.0 x = f ∙ sym (part-flat 512 k.0 m) in
          rw (fit, usual, e)
          (ap₂ (λ (t : Slot) (o : List ℕ). alone_of t k.0 o image u)
          (settled-slot k.0 x long usual below ∙ ap (slot_after 0 (replicate 5 Tick)) (sym i))
          (settled-part k.0 x long usual below ∙ ap₂ (part_after 0 (replicate 5 Tick)) (sym i) (sym p))
          ∙ ap (λ (l : List ℕ). alone_of (slot_after 0 (replicate 5 Tick) s) k.0 (part_after 0 (replicate 5 Tick) s part) l u) (sym w) ∙ g)
