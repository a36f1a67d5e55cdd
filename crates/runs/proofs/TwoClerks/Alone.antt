-- Slot k of a bench over a run of acts is the slot alone over the run; and where the other slots are silent, the bench shows what it alone shows.
-- Assumes nothing.
use Prim.Native.Nat.{ℕ, ◌<◌}
use native.Mathlib.Nat.{zero-add}
use mathlib.Core.Path.{◌≡◌, refl, ◌∙◌, ap, ap₂}
use mathlib.Core.Bool.{Bool, false, cond}
use mathlib.Core.List.{List, [], ◌∷◌}
use lib.ListN.{length, get_or}
use Rattle.proof_lists.specs.Each.{map_from-at, any_from-one, first_from-one}
use Rattle.proof_lists.specs.Parts.{part}
use Rattle.rules.specs.declared.Act.{Act}
use Rattle.rules.specs.declared.Carried.{Carried}
use Rattle.rules.specs.declared.Carried.TheVariants as carries
use Rattle.rules.specs.declared.Answer.TheVariants.{Ack, Nack, Data}
use Rattle.rules.specs.declared.Slot.{Slot}
use Rattle.rules.specs.Modelled.{slot_bytes}
use Rattle.rules.specs.Events.{carried}
use Rattle.rules.specs.Slot.{slot_next, part_next, acks, drives, driven}
use Rattle.rules.specs.Bus.{bus_next, any_ack, read_byte, shown_for, shown}
use Rattle.rules.specs.Runs.{Bench, taken, given, slot_after, part_after}
use Rattle.runs.specs.Exchanges.{went, told, alone_for, shown_alone, told_alone}
use Rattle.rules.proofs.Memory.Stored.{part-next}
use Rattle.rules.proofs.Memory.Protection.{number-taken}

-- a bench's slots and slot k's part of its memory
abbrev pub slots_of : Bench → List Slot
slots_of x = x.bus.slots

abbrev pub part_of : ℕ → Bench → List ℕ
part_of k x = part slot_bytes k x.memory

-- slot i says nothing at the act
unfoldable pub SilentFor : ℕ → Carried → Slot → Type 0
SilentFor i (carries.Byte v) s = acks i v s ≡ false
SilentFor i (carries.Read more) s = drives s ≡ false
SilentFor i carries.Nothing s = Unit {0}

abbrev pub Silent : ℕ → Act → Slot → Type 0
Silent i a s = SilentFor i (carried a) s

-- and over a run
unfoldable pub SilentOver : ℕ → List Act → Slot → Type 0
SilentOver i [] s = Unit {0}
SilentOver i (a ∷ r) s = Silent i a s × SilentOver i r (slot_next i a s)

module _ (d : Slot) (k : ℕ) where
  abbrev pub slot_at : Bench → Slot
  slot_at x = get_or (slots_of x) k d

  -- one act
  pub slot-taken : (a : Act) (x : Bench) → k < length (slots_of x) → slot_at (taken a x) ≡ slot_next k a (slot_at x)
  unfolding taken bus_next
  slot-taken a x h = rw (map_from-at (λ n s. slot_next n a s) 0 (slots_of x) k d h, zero-add)

  pub part-taken : (a : Act) (x : Bench) → k < length (slots_of x) → part_of k (taken a x) ≡ part_next a (slot_at x) (part_of k x)
  unfolding taken
  part-taken a x h = part-next a x.bus x.memory k d h

  below-taken : (a : Act) (x : Bench) → k < length (slots_of x) → k < length (slots_of (taken a x))
  below-taken a x h = rw number-taken h

  -- a run of acts
  pub slot-went : (r : List Act) (x : Bench) → k < length (slots_of x) → slot_at (went r x) ≡ slot_after k r (slot_at x)
  unfolding went slot_after
  slot-went [] x h = refl
  slot-went (a ∷ r) x h = slot-went r (taken a x) (below-taken a x h) ∙ ap (slot_after k r) (slot-taken a x h)

  pub part-went : (r : List Act) (x : Bench) → k < length (slots_of x) → part_of k (went r x) ≡ part_after k r (slot_at x) (part_of k x)
  unfolding went part_after
  part-went [] x h = refl
  part-went (a ∷ r) x h = part-went r (taken a x) (below-taken a x h) ∙ ap₂ (part_after k r) (slot-taken a x h) (part-taken a x h)

  -- what the bench shows, where the others are silent
  shown-one : (c : Carried) (x : Bench) → k < length (slots_of x)
      → ((i : ℕ) → i < length (slots_of x) → (i ≡ k → ⊥) → SilentFor i c (get_or (slots_of x) i d))
      → shown_for c x.bus x.memory ≡ alone_for k c (slot_at x) (part_of k x)
  unfolding shown_for alone_for SilentFor any_ack read_byte
  shown-one (carries.Byte v) x h q =
      ap (λ (b : Bool). cond b Ack Nack) (rw zero-add at (any_from-one (λ n s. acks n v s) 0 (slots_of x) d k h (λ i l ne. rw zero-add (q i l ne))))
  shown-one (carries.Read b) x h q =
      ap Data (rw zero-add at (first_from-one (λ n s. drives s) (λ n s. driven (part slot_bytes n x.memory) s) 0xFF 0 (slots_of x) d k h q))
  shown-one carries.Nothing x h q = refl

  pub given-one : (a : Act) (x : Bench) → k < length (slots_of x)
      → ((i : ℕ) → i < length (slots_of x) → (i ≡ k → ⊥) → Silent i a (get_or (slots_of x) i d))
      → given a x ≡ shown_alone k a (slot_at x) (part_of k x)
  unfolding given shown shown_alone
  given-one a x h q = shown-one (carried a) x h q

-- and over a run
pub told-one : (d : Slot) (k : ℕ) (r : List Act) (x : Bench) → k < length (slots_of x)
    → ((i : ℕ) → i < length (slots_of x) → (i ≡ k → ⊥) → SilentOver i r (get_or (slots_of x) i d))
    → told r x ≡ told_alone k r (slot_at d k x) (part_of k x)
unfolding told told_alone SilentOver
told-one d k [] x h q = refl
told-one d k (a ∷ r) x h q =
    ap₂ ◌∷◌ (given-one d k a x h (λ i l ne. (q i l ne).0))
    (told-one d k r (taken a x) (rw number-taken h) (λ i l ne. rw (slot-taken d i a x (rw number-taken at l)) (q i (rw number-taken at l) ne).1)
    ∙ ap₂ (told_alone k r) (slot-taken d k a x h) (part-taken d k a x h))
