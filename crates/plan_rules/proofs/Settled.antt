-- The five ticks: what they leave of slot k and of its bytes is what they leave of the slot alone, and no slot in range is in a cycle after them.
-- Assumes nothing.
use Prim.Native.Nat.{ℕ, zero, suc, ◌-◌, ◌<◌, ◌≤◌}
use native.Mathlib.Omega.{arith}
use mathlib.Core.Path.{◌≡◌, refl, ◌∙◌, ap}
use mathlib.Core.Bool.{Bool, true, false}
use mathlib.Core.List.{List}
use lib.Dec.{eqb, leb}
use lib.ListN.{length, replicate}
use borrow.Author.Tests.{eqb-true, leb-true}
use Rattle.proof_lists.specs.Each.{list_all-at}
use Rattle.proof_lists.specs.Tests.{by-test, cond_cases, and_left, and_right}
use Rattle.rules.specs.declared.Act.{Act}
use Rattle.rules.specs.declared.Act.TheVariants.{Tick}
use Rattle.rules.specs.declared.Slot.{Slot}
use Rattle.rules.specs.Modelled.{absent, memory_bytes}
use Rattle.rules.specs.Open.{open-fields, open-memory}
use Rattle.rules.specs.Fresh.{absent_slot}
use Rattle.rules.specs.Slot.{present_next, slot_next}
use Rattle.rules.specs.Events.{act_of}
use Rattle.rules.specs.Refusals.{good_length, slot_in_range, kinds_of, in_range, unknown_kind, wrong_slot, wrong_value, ruled_for, ruled_by}
use Rattle.rules.specs.Runs.{Bench, slot_after, part_after}
use Rattle.runs.specs.Exchanges.{kept_by, acts_of, went}
use Rattle.rules.proofs.Memory.Protection.{kind-next, length-next, still-present, kinds-after, number-after}
use Rattle.rules.proofs.Memory.Stored.{memory-length-after}
use Rattle.rules.proofs.Range.Kept.{facts, after-in-range}
use Rattle.rules.proofs.Run.Cases.{present-next}
use Rattle.runs.proofs.FromSetup.Arrays.{Sixteen, slot-sixteen}
use Rattle.runs.proofs.TwoClerks.Alone.{slot-went, part-went}
use Rattle.runs.proofs.TwoClerks.Foreign.{absent-after}
use Rattle.runs.proofs.TwoClerks.RunAnswers.{Sound, after_kept}
use Rattle.plan_rules.specs.Plan.{five, ticks, five_ticks, settled, slot_at, bytes_at}

abbrev pub five_times : List Act
five_times = replicate five Tick

module _ (k : ℕ) (x : Bench) (long : length x.memory ≡ memory_bytes) (ranged : in_range x.bus ≡ true) where
  -- five ticks are five ticks, whatever the kinds of the slots
  ticks-taken : settled x ≡ went five_times x
  unfolding settled
  ticks-taken = after_kept five_ticks x long ranged ∙ unfold five_ticks ticks acts_of kept_by ruled_by ruled_for unknown_kind wrong_slot wrong_value act_of in refl

  module _ (below : k < length x.bus.slots) where
    pub settled-slot : slot_at k (settled x) ≡ slot_after 0 five_times (slot_at k x)
    unfolding slot_at slot_after slot_next present_next
    settled-slot = ap (slot_at k) ticks-taken ∙ slot-went absent_slot k five_times x below

    pub settled-part : bytes_at k (settled x) ≡ part_after 0 five_times (slot_at k x) (bytes_at k x)
    unfolding slot_at bytes_at part_after slot_next present_next
    settled-part = ap (bytes_at k) ticks-taken ∙ part-went absent_slot k five_times x below

-- one slot over its ticks: what each keeps, and the ticks left
ticks-keep : (P : Slot → Type 0) → ((s : Slot) → P s → P (slot_next 0 Tick s)) → (j : ℕ) (s : Slot) → P s → P (slot_after 0 (replicate j Tick) s)
unfolding slot_after
ticks-keep P keeps zero s h = h
ticks-keep P keeps (suc j) s h = ticks-keep P keeps j (slot_next 0 Tick s) (keeps s h)

tick-left : (s : Slot) → absent s ≡ false → (slot_next 0 Tick s).left ≡ s.left - 1
unfolding present_next open-memory open-fields
tick-left s a = ap (λ (t : Slot). t.left) (present-next 0 Tick s a) ∙ by-test (eqb s.left 1) (λ e. rw e (let f = eqb-true s.left 1 e in omega arith)) (λ e. rw e)

left_after : (j : ℕ) (s : Slot) → absent s ≡ false → (slot_after 0 (replicate j Tick) s).left ≡ s.left - j
unfolding slot_after
left_after zero s a = omega arith
left_after (suc j) s a = let d = tick-left s a in left_after j (slot_next 0 Tick s) (still-present 0 Tick s a) ∙ omega arith

-- "a present slot's length" is 1 to 5, and an absent one has no ticks left
pub length-range : (s : Slot) → slot_in_range s ≡ true → absent s ≡ false → (1 ≤ s.length) × (s.length ≤ 5)
unfolding absent good_length
length-range s v a =
    let g : good_length s.length ≡ true = rw a at (facts s v).lengths in
    (leb-true _ _ (and_left (leb 1 s.length) (leb s.length 5) g), leb-true _ _ (and_right (leb 1 s.length) (leb s.length 5) g))

-- a slot's cycle is at most five ticks long
pub short-cycle : (s : Slot) → slot_in_range s ≡ true → s.length ≤ 5
unfolding good_length
short-cycle s h =
    cond_cases (λ (t : Bool). t ≡ true → s.length ≤ 5) (eqb s.kind 0) (λ z e. omega (arith, eqb-true s.length 0 e))
    (λ z e. leb-true s.length 5 (and_right (leb 1 s.length) (leb s.length 5) e)) (facts s h).lengths

pub absent-left : (s : Slot) → slot_in_range s ≡ true → absent s ≡ true → s.left ≡ 0
unfolding absent
absent-left s v a =
    let g : eqb s.length 0 ≡ true = rw a at (facts s v).lengths in
    let z : s.length ≡ 0 = eqb-true s.length 0 g in
    let l = (facts s v).lefts in omega arith

left-none : (s : Slot) → slot_in_range s ≡ true → (slot_after 0 five_times s).left ≡ 0
left-none s v = by-test (absent s)
    (λ a. ap (λ (t : Slot). t.left) (absent-after 0 five_times s a) ∙ absent-left s v a)
    (λ a. let l = length-range s v a in let f = (facts s v).lefts in left_after five s a ∙ omega arith)

module _ (x : Bench) (long : length x.memory ≡ memory_bytes) (ranged : in_range x.bus ≡ true) where
  -- the bench is as sound as it was
  pub settled-sound : Sound (kinds_of x.bus) (settled x)
  unfolding settled
  settled-sound = record { long = memory-length-after five_ticks x ∙ long; ranged = after-in-range five_ticks x ranged; alike = kinds-after five_ticks x }

  pub settled-number : length (settled x).bus.slots ≡ length x.bus.slots
  unfolding settled
  settled-number = number-after five_ticks x

  module _ (i : ℕ) (below : i < length x.bus.slots) where
    pub slot-ranged : slot_in_range (slot_at i x) ≡ true
    unfolding slot_at in_range
    slot-ranged = list_all-at slot_in_range i x.bus.slots absent_slot below ranged

    pub settled-left : (slot_at i (settled x)).left ≡ 0
    settled-left = ap (λ (s : Slot). s.left) (settled-slot i x long ranged below) ∙ left-none (slot_at i x) slot-ranged

    pub settled-kind : (slot_at i (settled x)).kind ≡ (slot_at i x).kind
    settled-kind = ap (λ (s : Slot). s.kind) (settled-slot i x long ranged below)
        ∙ ticks-keep (λ (s : Slot). s.kind ≡ (slot_at i x).kind) (λ s e. kind-next 0 Tick s ∙ e) five (slot_at i x) refl

    pub settled-length : (slot_at i (settled x)).length ≡ (slot_at i x).length
    settled-length = ap (λ (s : Slot). s.length) (settled-slot i x long ranged below)
        ∙ ticks-keep (λ (s : Slot). s.length ≡ (slot_at i x).length) (λ s e. length-next 0 Tick s ∙ e) five (slot_at i x) refl

    pub settled-sixteen : Sixteen (slot_at i x) → Sixteen (slot_at i (settled x))
    settled-sixteen h = rw (settled-slot i x long ranged below) (ticks-keep Sixteen (slot-sixteen 0 Tick) five (slot_at i x) h)
