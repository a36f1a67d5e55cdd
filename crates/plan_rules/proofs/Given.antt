-- What is handed in and refused by none of the rows 1, 6 and 3: the three lengths are right, and the slot is there.
-- Assumes nothing.
use Prim.Native.Nat.{ℕ, ◌<◌}
use native.Mathlib.Omega.{arith}
use mathlib.Core.Path.{◌≡◌, sym}
use mathlib.Core.Bool.{Bool, false, not, ◌||◌}
use mathlib.Core.List.{List}
use lib.Dec.{eqb, ltb}
use lib.ListN.{length, get_or-map}
use borrow.Author.Tests.{eqb-true, eqb-false, ltb-false, not-false}
use Rattle.proof_lists.specs.Tests.{or_left_false, or_right_false}
use Rattle.rules.specs.declared.Bus.{Bus}
use Rattle.rules.specs.declared.Slot.{Slot}
use Rattle.rules.specs.declared.SlotNo.{SlotNo}
use Rattle.rules.specs.Modelled.{absent, older, slot_count, slot_bytes, memory_bytes}
use Rattle.rules.specs.Fresh.{fresh_slot, absent_slot}
use Rattle.rules.specs.Refusals.{wrong_length, kinds_of, kind_at}
use Rattle.rules.proofs.Document.Looking.{kind-there}
use Rattle.plan_rules.specs.Plan.{slot_at, buffer_bytes, wrong_lengths, no_such_slot}

-- the three lengths
pub right-lengths : (m image buffer : List ℕ) → wrong_lengths m image buffer ≡ false → (length m ≡ memory_bytes) × (length image ≡ slot_bytes) × (length buffer ≡ buffer_bytes)
unfolding wrong_lengths wrong_length
right-lengths m image buffer h =
    let first : Bool = not (eqb (length m) memory_bytes) in
    let second : Bool = not (eqb (length image) slot_bytes) in
    let third : Bool = not (eqb (length buffer) buffer_bytes) in (
      eqb-true _ _ (not-false _ (or_left_false first second (or_left_false (first || second) third h))),
      eqb-true _ _ (not-false _ (or_right_false first second (or_left_false (first || second) third h))),
      eqb-true _ _ (not-false _ (or_right_false (first || second) third h)),
    )

-- the slot: its number, its place, and that it is not absent; P9: and no older module
module _ (k : SlotNo) (b : Bus) (h : no_such_slot k b ≡ false) where
  abbrev kind : ℕ
  kind = kind_at (kinds_of b) k

  numbered : ltb 7 k.0 || eqb kind 0 ≡ false
  unfolding no_such_slot
  numbered = or_left_false (ltb 7 k.0 || eqb kind 0) (eqb kind 3) h

  not-absent : eqb kind 0 ≡ false
  not-absent = or_right_false (ltb 7 k.0) (eqb kind 0) numbered

  not-older : eqb kind 3 ≡ false
  unfolding no_such_slot
  not-older = or_right_false (ltb 7 k.0 || eqb kind 0) (eqb kind 3) h

  pub slot-below : k.0 < slot_count
  slot-below = omega (arith, ltb-false 7 k.0 (or_left_false (ltb 7 k.0) (eqb kind 0) numbered))

  pub slot-there : k.0 < length b.slots
  slot-there = kind-there k b (eqb-false kind 0 not-absent)

  module _ (m : List ℕ) where
    same_kind : (slot_at k.0 (record { bus = b; memory = m })).kind ≡ kind
    unfolding kind_at kinds_of slot_at absent_slot fresh_slot
    same_kind = sym (get_or-map (λ (s : Slot). s.kind) b.slots k.0 absent_slot)

    pub slot-present : absent (slot_at k.0 (record { bus = b; memory = m })) ≡ false
    unfolding absent
    slot-present = rw same_kind not-absent

    pub slot-newer : older (slot_at k.0 (record { bus = b; memory = m })) ≡ false
    unfolding older
    slot-newer = rw same_kind not-older
