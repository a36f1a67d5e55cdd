-- One slot alone over two runs of acts, one after the other: its state, and its bytes.
-- Assumes nothing.
use Prim.Native.Nat.{ℕ}
use mathlib.Core.Path.{◌≡◌, refl}
use mathlib.Core.List.{List, [], ◌∷◌, ◌++◌}
use Rattle.rules.specs.declared.Act.{Act}
use Rattle.rules.specs.declared.Slot.{Slot}
use Rattle.rules.specs.Slot.{slot_next, part_next}
use Rattle.rules.specs.Runs.{slot_after, part_after}

module _ (n : ℕ) where
  pub slots-joined : (r v : List Act) (s : Slot) → slot_after n (r ++ v) s ≡ slot_after n v (slot_after n r s)
  unfolding slot_after
  slots-joined [] v s = refl
  slots-joined (a ∷ r) v s = slots-joined r v (slot_next n a s)

  pub parts-joined : (r v : List Act) (s : Slot) (m : List ℕ) → part_after n (r ++ v) s m ≡ part_after n v (slot_after n r s) (part_after n r s m)
  unfolding slot_after part_after
  parts-joined [] v s m = refl
  parts-joined (a ∷ r) v s m = parts-joined r v (slot_next n a s) (part_next a s m)
