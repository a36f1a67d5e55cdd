-- Document 01, "Events": how what the slots show is joined, of any number of slots: an ACK of any, the lowest driver's byte.
-- Assumes nothing.
use Prim.Native.Nat.{ℕ, ◌<◌}
use native.Mathlib.Nat.{zero-add}
use mathlib.Core.Path.{◌≡◌, ap}
use mathlib.Core.Bool.{Bool, true, false, cond}
use mathlib.Core.List.{List}
use lib.ListN.{length, get_or}
use Rattle.proof_lists.specs.Each.{any_from-some, any_from-no, first_from-at, first_from-no}
use Rattle.proof_lists.specs.Parts.{part}
use Rattle.rules.specs.declared.Act.TheVariants.{Byte, Read}
use Rattle.rules.specs.declared.Answer.TheVariants.{Ack, Nack, Data}
use Rattle.rules.specs.declared.Bus.{Bus}
use Rattle.rules.specs.declared.Slot.{Slot}
use Rattle.rules.specs.Modelled.{slot_bytes}
use Rattle.rules.specs.Slot.{acks, drives, driven}
use Rattle.rules.specs.Bus.{any_ack, read_byte, shown_for, shown}

module _ (b : Bus) (m : List ℕ) (d : Slot) where
  abbrev slot : ℕ → Slot
  slot i = get_or b.slots i d

  -- "Kind 2 answers ACK or NACK: ACK if at least one slot acknowledges."
  pub some-ack : (v i : ℕ) → i < length b.slots → acks i v (slot i) ≡ true → shown (Byte v) b m ≡ Ack
  unfolding shown shown_for any_ack
  some-ack v i l a = ap (λ (t : Bool). cond t Ack Nack) (any_from-some (λ n s. acks n v s) 0 b.slots d i l (rw zero-add a))

  pub no-ack : (v : ℕ) → ((i : ℕ) → i < length b.slots → acks i v (slot i) ≡ false) → shown (Byte v) b m ≡ Nack
  unfolding shown shown_for any_ack
  no-ack v h = ap (λ (t : Bool). cond t Ack Nack) (any_from-no (λ n s. acks n v s) 0 b.slots d (λ i l. rw zero-add (h i l)))

  -- "Kind 3 answers a byte: the driving slot's, or FFh when none drives."; "of several driving slots the lowest is read"
  pub lowest-read : (more : Bool) (i : ℕ) → i < length b.slots → drives (slot i) ≡ true → ((j : ℕ) → j < i → drives (slot j) ≡ false)
      → shown (Read more) b m ≡ Data (driven (part slot_bytes i m) (slot i))
  unfolding shown shown_for read_byte
  lowest-read more i l f h =
      ap Data (rw zero-add at (first_from-at (λ n s. drives s) (λ n s. driven (part slot_bytes n m) s) 0xFF 0 b.slots d i l f h))

  pub none_read : (more : Bool) → ((i : ℕ) → i < length b.slots → drives (slot i) ≡ false) → shown (Read more) b m ≡ Data 0xFF
  unfolding shown shown_for read_byte
  none_read more h = ap Data (first_from-no (λ n s. drives s) (λ n s. driven (part slot_bytes n m) s) 0xFF 0 b.slots d h)
