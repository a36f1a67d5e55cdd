-- Request P1, theorem 5: planning again after the run gives the five ticks alone.
-- Assumes nothing.
use Prim.Native.Nat.{ℕ, zero, suc, ◌<◌}
use mathlib.Core.Path.{◌≡◌, refl, ◌∙◌, ap}
use mathlib.Core.Bool.{true, false, not}
use mathlib.Core.List.{List, [], ◌++◌, append-nil}
use lib.ListN.{length}
use Rattle.std.proofs.lemmas.Slice.Eq.{bytes_eq-Decides}
use Rattle.rules.specs.declared.Slot.{Slot}
use Rattle.rules.specs.Modelled.{memory_bytes}
use Rattle.rules.specs.Refusals.{in_range}
use Rattle.rules.specs.Runs.{Bench}
use Rattle.rules.proofs.Memory.Protection.{number-after}
use Rattle.rules.proofs.Memory.Stored.{memory-length-after}
use Rattle.rules.proofs.Range.Kept.{after-in-range}
use Rattle.plan_rules.specs.Plan.{five, five_ticks, settled, slot_at, bytes_at, page_at, page_count, differs, barred, barred_before, pages_before, plan_events, forbidden}
use Rattle.plan_rules.proofs.Settled.{settled-part}
use Rattle.plan_rules.proofs.Others.{ticks-passed}
use Rattle.plan_rules.proofs.Carried.{Asked, there}
use Rattle.plan_rules.proofs.Right.{done, is_right}

-- where nothing differs nothing is planned, and nothing bars the plan
module _ (image : List ℕ) (s : Slot) (k : ℕ) where
  differs_none : (p : ℕ) → differs image image p ≡ false
  unfolding differs
  differs_none p = ap not ((bytes_eq-Decides (page_at p image) (page_at p image)).1 refl)

  pages-none : (p : ℕ) → pages_before image image s k p ≡ []
  unfolding pages_before
  pages-none zero = refl
  pages-none (suc p) = rw (differs_none p, append-nil (pages_before image image s k p)) (pages-none p)

  barred-none : (p : ℕ) → barred_before image image s p ≡ false
  unfolding barred_before barred
  barred-none zero = refl
  barred-none (suc p) = rw (barred-none p, differs_none p)

-- a bench whose slot k is in no cycle and has the image
module _ (k : ℕ) (x : Bench) (image : List ℕ) (long : length x.memory ≡ memory_bytes) (ranged : in_range x.bus ≡ true)
    (below : k < length x.bus.slots) (rests : (slot_at k x).left ≡ 0) (stands : bytes_at k x ≡ image) where
  settled-stands : bytes_at k (settled x) ≡ image
  settled-stands = settled-part k x long ranged below ∙ (ticks-passed 0 five (slot_at k x) (bytes_at k x) rests).part ∙ stands

  nothing-planned : plan_events k x image ≡ five_ticks
  unfolding plan_events
  nothing-planned =
      ap (λ (m : List ℕ). five_ticks ++ pages_before m image (slot_at k (settled x)) k page_count) settled-stands
      ∙ ap (five_ticks ++◌) (pages-none image (slot_at k (settled x)) k page_count) ∙ append-nil five_ticks

  nothing-barred : forbidden k x image ≡ false
  unfolding forbidden
  nothing-barred =
      ap (λ (m : List ℕ). barred_before m image (slot_at k (settled x)) page_count) settled-stands ∙ barred-none image (slot_at k (settled x)) k page_count

pub record Again (k : ℕ) (x : Bench) (image : List ℕ) : Type 0 where
  pub five : plan_events k (done k x image) image ≡ five_ticks
  pub free : forbidden k (done k x image) image ≡ false

pub planned-again : (k : ℕ) (x : Bench) (image : List ℕ) → Asked k x image → Again k x image
planned-again k x image asked =
    let right = is_right k x image asked in
    let plan = plan_events k x image in
    let long : length (done k x image).memory ≡ memory_bytes = memory-length-after plan x ∙ asked.long in
    let ranged : in_range (done k x image).bus ≡ true = after-in-range plan x asked.ranged in
    let below : k < length (done k x image).bus.slots = rw (number-after plan x) (there k x image asked k asked.below) in
    record {
      five = nothing-planned k (done k x image) image long ranged below (right.no-cycle k asked.below) right.stands;
      free = nothing-barred k (done k x image) image long ranged below (right.no-cycle k asked.below) right.stands;
    }
