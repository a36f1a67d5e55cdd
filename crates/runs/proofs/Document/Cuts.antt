-- Request P3 on the bench: what a power cycle leaves of a slot and of its bytes goes by that slot alone and by the number, whatever the other slots
-- do; and with 16 it is enough ticks and then document 01's power cycle, of every slot at once.
-- Assumes nothing.
use Prim.Native.Nat.{ℕ, ◌+◌, ◌-◌, ◌<◌, ◌≤◌}
use native.Mathlib.Omega.{arith}
use mathlib.Core.Path.{◌≡◌, sym, ◌∙◌, ap, ap₂}
use mathlib.Core.List.{List, [], ◌∷◌, ◌++◌}
use lib.ListN.{length, replicate}
use Rattle.proof_lists.specs.Tests.{by-test}
use Rattle.rules.specs.declared.Act.{Act}
use Rattle.rules.specs.declared.Act.TheVariants.{Tick, Power}
use Rattle.rules.specs.declared.Cut.{Cut}
use Rattle.rules.specs.declared.Slot.{Slot}
use Rattle.rules.specs.Modelled.{absent}
use Rattle.rules.specs.Slot.{slot_next, part_next}
use Rattle.rules.specs.Runs.{Bench, taken, slot_after, part_after}
use Rattle.runs.specs.Exchanges.{went}
use Rattle.rules.proofs.Run.Cases.{absent-next}
use Rattle.rules.proofs.Run.Joined.{slots-joined, parts-joined}
use Rattle.rules.proofs.Memory.Stored.{storing, absent-part, part-still}
use Rattle.rules.proofs.Document.Cut.{with-all-later}
use Rattle.runs.proofs.TwoClerks.Alone.{slots_of, part_of, slot_at, slot-taken, part-taken, slot-went, part-went}
use Rattle.runs.proofs.TwoClerks.Foreign.{absent-after, absent-parts}

module _ (d : Slot) (k : ℕ) where
  -- "each slot counts for itself": two benches that agree on slot k and its bytes still do after a power cycle with the same number
  pub each-for-itself : (c : Cut) (x y : Bench) → k < length (slots_of x) → k < length (slots_of y) → slot_at d k x ≡ slot_at d k y → part_of k x ≡ part_of k y
      → (slot_at d k (taken (Power c) x) ≡ slot_at d k (taken (Power c) y)) × (part_of k (taken (Power c) x) ≡ part_of k (taken (Power c) y))
  each-for-itself c x y l h e f = (
    slot-taken d k (Power c) x l ∙ ap (slot_next k (Power c)) e ∙ sym (slot-taken d k (Power c) y h),
    part-taken d k (Power c) x l ∙ ap₂ (part_next (Power c)) e f ∙ sym (part-taken d k (Power c) y h),
  )

  -- with 16: as after j ticks, which are enough for its cycle to end, and a power cycle with 0
  pub all-at-once : (c none : Cut) → 16 ≤ c.0 → none.0 ≡ 0 → (j : ℕ) (x : Bench) → k < length (slots_of x) → (slot_at d k x).left ≤ j
      → let later : Bench = went (replicate j Tick ++ Power none ∷ []) x in
      (slot_at d k (taken (Power c) x) ≡ slot_at d k later) × (part_of k (taken (Power c) x) ≡ part_of k later)
  unfolding slot_after part_after
  all-at-once c none most nothing j x l h =
      let s : Slot = slot_at d k x in
      let m : List ℕ = part_of k x in
      let ticks : List Act = replicate j Tick in
      let more : ℕ = j - s.left in
      let e : s.left + more ≡ j = omega arith in
      let alone = by-test {P = (slot_next k (Power c) s ≡ slot_next k (Power none) (slot_after k ticks s)) × (part_next (Power c) s m ≡ part_after k ticks s m)} (absent s)
      (λ a. (absent-next k (Power c) s a ∙ sym (ap (slot_next k (Power none)) (absent-after k ticks s a) ∙ absent-next k (Power none) s a), absent-part (Power c) s m a ∙ sym (absent-parts k ticks s m a)))
      (λ a. rw e at (with-all-later k c none most nothing more s m a)) in (
        slot-taken d k (Power c) x l ∙ alone.0 ∙ sym (slot-went d k (ticks ++ Power none ∷ []) x l ∙ slots-joined k ticks (Power none ∷ []) s),
        part-taken d k (Power c) x l ∙ alone.1 ∙ sym (part-went d k (ticks ++ Power none ∷ []) x l ∙ parts-joined k ticks (Power none ∷ []) s m ∙ part-still (Power none) (slot_after k ticks s) (part_after k ticks s m) (unfold storing in nothing)),
      )
