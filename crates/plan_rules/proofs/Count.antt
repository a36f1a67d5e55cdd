-- Request P1, theorem 4: "At most 811 records, their number returned": the number of a plan's records, and an instance that reaches the most.
-- Assumes nothing.
use Rattle.std.proofs.Common.{Ok}
use Prim.Native.Nat.{ℕ, zero, suc, ◌+◌, ◌*◌, ◌<◌, ◌≤◌}
use native.Mathlib.Omega.{arith}
use native.Mathlib.Nat.{mul-add, mul-le-mul}
use mathlib.Core.Path.{◌≡◌, refl, ◌∙◌, ap, ap₂}
use mathlib.Core.Bool.{true, false, not, cond}
use mathlib.Core.List.{List, [], ◌∷◌, ◌++◌, map, append-nil}
use lib.Dec.{eqb}
use lib.ListN.{length, replicate, length-append}
use borrow.Author.Tests.{eqb-false}
use Rattle.proof_lists.specs.Parts.{part}
use Rattle.proof_lists.specs.Tests.{by-test, cond_cases}
use Rattle.rules.specs.declared.Slot.{Slot}
use Rattle.rules.specs.Modelled.{slot_bytes, memory_bytes}
use Rattle.rules.specs.Open.{open-all}
use Rattle.rules.specs.Fields.{in_half}
use Rattle.rules.specs.Fresh.{fresh_slot, absent_slot}
use Rattle.rules.specs.Control.{protects}
use Rattle.rules.specs.Refusals.{in_range}
use Rattle.rules.specs.Runs.{Bench}
use Rattle.rules.proofs.Range.Kept.{facts}
use Rattle.plan_rules.specs.Plan.{five, ticks, five_ticks, settled, slot_at, bytes_at, page_at, page_count, page_half, page_counter, selecting, writing, differs, half_before, page_events, pages_before, plan_events, page_block, barred, barred_before, buffer_bytes, wrong_lengths, no_such_slot, forbidden, planned, plan_of}
use Rattle.plan_rules.specs.Plan as Plan
use Rattle.plan_rules.specs.Effect.{differing, selections_before}
use Rattle.plan_rules.proofs.Settled.{short-cycle, settled-sound, slot-ranged, settled-number, settled-length, settled-slot, settled-part}
use Rattle.plan_rules.proofs.Others.{ticks-passed}
use Rattle.plan_rules.proofs.Pages.{page-length}

-- a page's records: a half where it is selected, and the write with its ticks
pub length-ticks : (n : ℕ) → length (ticks n) ≡ n
unfolding ticks
length-ticks zero = refl
length-ticks (suc n) = ap suc (length-ticks n)

length-bytes : (bs : List ℕ) → length (map Plan.byte bs) ≡ length bs
length-bytes [] = refl
length-bytes (b ∷ bs) = ap suc (length-bytes bs)

pub length-writing : (k c : ℕ) (bs : List ℕ) (n : ℕ) → length (writing k c bs n) ≡ length bs + n + 4
unfolding writing
length-writing k c bs n = length-append (Plan.start ∷ Plan.byte (0xA0 + 2 * k) ∷ Plan.byte c ∷ map Plan.byte bs) (Plan.stop ∷ ticks n) ∙ rw (length-bytes bs, length-ticks n) (omega arith)

-- the half of a page
low : (p : ℕ) → p < 16 → page_half p ≡ 0
unfolding page_half
low p h = omega arith

high : (p : ℕ) → p < 16 → page_half (p + 16) ≡ 1
unfolding page_half
high p h = omega arith

length-selecting : (now h : ℕ) → length (selecting now h) ≡ 3 * cond (not (eqb h now)) 1 0
unfolding selecting
length-selecting now h = by-test (eqb h now) (λ e. rw e) (λ e. rw e)

-- the pages 0 to p - 1: each that differs has its twenty records and the slot's ticks, and each half that is selected has three
module _ (old image : List ℕ) (s : Slot) (k : ℕ) (wanted : length image ≡ 512) where
  pages-counted : (p : ℕ) → p ≤ 32 → length (pages_before old image s k p) ≡ (20 + s.length) * length (differing old image p) + 3 * selections_before old image s p
  unfolding pages_before page_events differing selections_before
  pages-counted zero h = omega arith
  pages-counted (suc p) h =
      let i = pages-counted p (omega arith) in
      let w = length-writing k (page_counter p) (page_at p image) s.length in
      let f = page-length p image wanted h in
      let c = length-selecting (half_before old image s p) (page_half p) in
      by-test (differs old image p)
      (λ d. rw (d, length-append (pages_before old image s k p), length-append (selecting (half_before old image s p) (page_half p)), length-append (differing old image p), mul-add (20 + s.length)) (omega arith))
      (λ d. rw (d, append-nil (pages_before old image s k p), append-nil (differing old image p)) (omega arith))

  -- no more pages differ than there are
  few-differ : (p : ℕ) → length (differing old image p) ≤ p
  unfolding differing
  few-differ zero = omega arith
  few-differ (suc p) =
      let i = few-differ p in
      by-test (differs old image p) (λ d. rw (d, length-append (differing old image p)) (omega arith)) (λ d. rw (d, append-nil (differing old image p)) (omega arith))

  module _ (halves : s.half ≤ 1) where
    half-small : (p : ℕ) → p ≤ 32 → half_before old image s p ≤ 1
    unfolding half_before
    half-small zero h = halves
    half-small (suc p) h = cond_cases (λ (n : ℕ). n ≤ 1) (differs old image p) (λ e. unfold page_half in omega arith) (λ e. half-small p (omega arith))

    -- among the pages of half 0 the half goes down at most once
    low-most : (p : ℕ) → p ≤ 16 → selections_before old image s p + half_before old image s p ≤ s.half
    unfolding selections_before half_before
    low-most zero h = omega arith
    low-most (suc p) h =
        let i = low-most p (omega arith) in
        let z : page_half p ≡ 0 = low p (omega arith) in
        by-test (differs old image p)
        (λ d. by-test (eqb (page_half p) (half_before old image s p))
        (λ e. rw (d, e) (omega arith))
        (λ e. let ne = eqb-false (page_half p) (half_before old image s p) e in rw (d, e) (omega (arith, ne))))
        (λ d. rw d (omega arith))

    -- and among those of half 1 up at most once
    high-step : (p : ℕ) → p < 16 → selections_before old image s (p + 16) ≤ s.half + half_before old image s (p + 16)
        → selections_before old image s (suc (p + 16)) ≤ s.half + half_before old image s (suc (p + 16))
    unfolding selections_before half_before
    high-step p h i =
        let z : page_half (p + 16) ≡ 1 = high p h in
        let b = half-small (p + 16) (omega arith) in
        by-test (differs old image (p + 16))
        (λ d. by-test (eqb (page_half (p + 16)) (half_before old image s (p + 16)))
        (λ e. rw (d, e) (omega arith))
        (λ e. let ne = eqb-false (page_half (p + 16)) (half_before old image s (p + 16)) e in rw (d, e) (omega (arith, ne))))
        (λ d. rw d (omega arith))

    high-most : (p : ℕ) → p ≤ 16 → selections_before old image s (p + 16) ≤ s.half + half_before old image s (p + 16)
    high-most zero h = let i = low-most 16 (omega arith) in omega arith
    high-most (suc p) h = let e : suc p + 16 ≡ suc (p + 16) = omega arith in rw e (high-step p h (high-most p (omega arith)))

    pages-most : s.length ≤ 5 → length (pages_before old image s k 32) ≤ 806
    pages-most short =
        let c = pages-counted 32 (omega arith) in
        let w : 20 + s.length ≤ 25 = omega arith in
        let d = mul-le-mul w (few-differ 32) in
        let i = high-most 16 (omega arith) in
        let b = half-small 32 (omega arith) in
        omega arith

-- any plan of any bench in range, whether or not it may be carried out
module _ (k : ℕ) (x : Bench) (image : List ℕ) (long : length x.memory ≡ memory_bytes) (ranged : in_range x.bus ≡ true) (below : k < length x.bus.slots) (wanted : length image ≡ slot_bytes) where
  abbrev now : Slot
  now = slot_at k (settled x)

  abbrev old : List ℕ
  old = bytes_at k (settled x)

  five-first : length (plan_events k x image) ≡ 5 + length (pages_before old image now k page_count)
  unfolding plan_events five_ticks ticks
  five-first = length-append five_ticks (pages_before old image now k page_count)

  -- its length: five ticks; twenty records and the slot's own count of ticks for each page that differs; three for each half that is selected
  pub plan-counted : length (plan_events k x image) ≡ 5 + (20 + (slot_at k x).length) * length (differing old image page_count) + 3 * selections_before old image now page_count
  plan-counted =
      let pages = pages-counted old image now k wanted page_count (omega arith) in
      let own = settled-length x long ranged k below in
      five-first ∙ rw (pages, own) (omega arith)

  -- and the most that it has
  pub plan-most : length (plan_events k x image) ≤ 811
  plan-most =
      let s = settled-sound x long ranged in
      let in-range = slot-ranged (settled x) s.long s.ranged k (rw (settled-number x long ranged) below) in
      let few = pages-most old image now k wanted (facts now in-range).halves (short-cycle now in-range) in
      omega (arith, five-first)

-- and one that has them all: every page differs, half 1 stands, and the slot takes five ticks
abbrev pub full_bench : Bench
full_bench = record { bus = record { slots = in_half 1 (fresh_slot 1 5) ∷ replicate 7 absent_slot }; memory = replicate memory_bytes 0x00 }

abbrev pub full_image : List ℕ
full_image = replicate slot_bytes 0xFF

full-long : length full_bench.memory ≡ memory_bytes
full-long = refl

full-ranged : in_range full_bench.bus ≡ true
unfolding open-all
full-ranged = refl

full-slot : slot_at 0 (settled full_bench) ≡ slot_at 0 full_bench
full-slot = settled-slot 0 full_bench full-long full-ranged (omega arith) ∙ (ticks-passed 0 five (slot_at 0 full_bench) (bytes_at 0 full_bench) (unfold slot_at in_half fresh_slot in refl)).slot

full-bytes : bytes_at 0 (settled full_bench) ≡ bytes_at 0 full_bench
full-bytes = settled-part 0 full_bench full-long full-ranged (omega arith) ∙ (ticks-passed 0 five (slot_at 0 full_bench) (bytes_at 0 full_bench) (unfold slot_at in_half fresh_slot in refl)).part

pub full-plan : length (plan_events 0 full_bench full_image) ≡ 811
unfolding plan_events
full-plan =
    ap₂ (λ (m : List ℕ) (s : Slot). length (five_ticks ++ pages_before m full_image s 0 page_count)) full-bytes full-slot
    ∙ unfold five_ticks ticks slot_at bytes_at page_at part page_half page_counter selecting writing differs half_before page_events pages_before in_half fresh_slot in refl

-- the planner gives it
full-lengths : wrong_lengths full_bench.memory full_image (replicate buffer_bytes 0x00) ≡ false
unfolding wrong_lengths open-all
full-lengths = refl

full-there : no_such_slot (record { 0 = 0 }) full_bench.bus ≡ false
unfolding no_such_slot open-all
full-there = refl

full-free : forbidden 0 full_bench full_image ≡ false
unfolding forbidden
full-free =
    ap₂ (λ (m : List ℕ) (s : Slot). barred_before m full_image s page_count) full-bytes full-slot
    ∙ unfold slot_at bytes_at page_at part page_block protects differs barred barred_before in_half fresh_slot in refl

pub full-planned : (plan_of full_bench.bus full_bench.memory (record { 0 = 0 }) full_image (replicate buffer_bytes 0x00)).0 ≡ Ok 811
unfolding plan_of planned
full-planned = rw (full-lengths, full-ranged, full-there, full-free) (ap Ok full-plan)
