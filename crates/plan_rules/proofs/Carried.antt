-- What a plan does, on every bench in range, whatever its slots are in the middle of: it is right, and it does no more.
-- Assumes nothing.
use Prim.Native.Nat.{ℕ, zero, suc, ◌/◌, ◌<◌, ◌≤◌}
use native.Mathlib.Omega.{arith}
use mathlib.Core.Path.{◌≡◌, refl, ◌∙◌, ap, subst}
use mathlib.Core.Bool.{true, false, ◌&&◌}
use mathlib.Core.List.{List, ◌++◌, map}
use lib.Dec.{eqb}
use lib.ListN.{length, get_or}
use borrow.Author.Tests.{eqb-true, eqb-false}
use Rattle.proof_lists.specs.Each.{Every}
use Rattle.proof_lists.specs.Tests.{by-test, or_left_false, or_right_false}
use Rattle.rules.specs.declared.Act.{Act}
use Rattle.rules.specs.declared.Event.{Event}
use Rattle.rules.specs.declared.Slot.{Slot}
use Rattle.rules.specs.Modelled.{absent, older, slot_count, slot_bytes, memory_bytes}
use Rattle.rules.specs.Fresh.{absent_slot}
use Rattle.rules.specs.Control.{protects}
use Rattle.rules.specs.Refusals.{kinds_of, in_range}
use Rattle.rules.specs.Runs.{Bench, after, answers, slot_after, part_after}
use Rattle.runs.specs.Exchanges.{went, told}
use Rattle.proof_lists.specs.Parts.{length_part}
use Rattle.runs.proofs.FromSetup.Arrays.{Sixteen}
use Rattle.runs.proofs.TwoClerks.Alone.{slot-went, part-went}
use Rattle.runs.proofs.TwoClerks.Joined.{after-joined}
use Rattle.plan_rules.specs.Plan.{five_ticks, settled, slot_at, bytes_at, page_block, differs, barred, barred_before, pages_before, forbidden}
use Rattle.plan_rules.specs.Effect.{due, differing, own_before, other_before}
use Rattle.plan_rules.proofs.Settled.{length-range, settled-sound, settled-number, slot-ranged, settled-left, settled-kind, settled-length, settled-sixteen}
use Rattle.plan_rules.proofs.Ran.{Ran}
use Rattle.plan_rules.proofs.Page.{FreeIn}
use Rattle.plan_rules.proofs.Others.{Passed, absent-passed}
use Rattle.plan_rules.proofs.Pages.{bytes_before}
use Rattle.plan_rules.proofs.Steps.{acts_before, own-run, other-run}
use Rattle.plan_rules.proofs.Acted.{Acted, acted-due, acted-after, pages-acted, all-heard}

-- what is asked of a plan: any bench in range with its memory and its slots, a present slot of it, no older module, with its arrays, 512 bytes, and no page
-- that differs in a protected block
pub record Asked (k : ℕ) (x : Bench) (image : List ℕ) : Type 0 where
  pub long : length x.memory ≡ memory_bytes
  pub ranged : in_range x.bus ≡ true
  pub number : length x.bus.slots ≡ slot_count
  pub below : k < slot_count
  pub present : absent (slot_at k x) ≡ false
  pub newer : older (slot_at k x) ≡ false
  pub arrays : Sixteen (slot_at k x)
  pub wanted : length image ≡ slot_bytes
  pub bytes : Every (λ b. b ≤ 255) image
  pub allowed : forbidden k x image ≡ false

-- no page below p is barred, so none of them is
open-page : (old image : List ℕ) (s : Slot) (p q : ℕ) → q < p → barred_before old image s p ≡ false → differs old image q ≡ true → get_or s.protection (q / 8) false ≡ false
unfolding barred_before barred protects page_block
open-page old image s (suc p) q l e d = by-test (eqb q p)
    (λ t. let f : q ≡ p = eqb-true q p t in
    let g : differs old image p && get_or s.protection (p / 8) false ≡ false = or_right_false (barred_before old image s p) (barred old image s p) e in
    let h : differs old image p ≡ true = subst (λ (n : ℕ). differs old image n ≡ true) f d in
    rw f (rw h at g))
    (λ t. let ne = eqb-false q p t in open-page old image s p q (omega (arith, ne)) (or_left_false (barred_before old image s p) (barred old image s p) e) d)
open-page old image s zero q l e d = absurd (omega arith)

module _ (k : ℕ) (x : Bench) (image : List ℕ) (asked : Asked k x image) where
  -- the bench after the five ticks, of it the slot and its bytes, and the acts of the pages
  abbrev pub kinds : List ℕ
  kinds = kinds_of x.bus

  abbrev pub now : Slot
  now = slot_at k (settled x)

  abbrev pub old : List ℕ
  old = bytes_at k (settled x)

  pub there : (i : ℕ) → i < slot_count → i < length x.bus.slots
  there i l = rw asked.number l

  settled-there : (i : ℕ) → i < slot_count → i < length (settled x).bus.slots
  settled-there i l = rw (settled-number x asked.long asked.ranged) (there i l)

  pub old-length : length old ≡ 512
  unfolding bytes_at
  old-length = length_part slot_bytes k (settled x).memory ∙ rw (settled-sound x asked.long asked.ranged).long (let l = asked.below in omega arith)

  -- the slot can be written to wherever its protection lets it
  pub now-present : absent now ≡ false
  unfolding absent
  now-present = rw (settled-kind x asked.long asked.ranged k (there k asked.below)) (unfold absent in asked.present)

  now-newer : older now ≡ false
  unfolding older
  now-newer = rw (settled-kind x asked.long asked.ranged k (there k asked.below)) (unfold older in asked.newer)

  base : (b : ℕ) → get_or now.protection b false ≡ false → FreeIn now.half b now
  unfolding absent older
  base b e =
      let t = there k asked.below in
      let l = length-range (slot_at k x) (slot-ranged x asked.long asked.ranged k t) asked.present in
      let n = settled-length x asked.long asked.ranged k t in
      let a = settled-sixteen x asked.long asked.ranged k t asked.arrays in
      record {
        present = now-present;
        newer = now-newer;
        no-ticks = settled-left x asked.long asked.ranged k t;
        lasts = λ z. omega (arith, l, n, z);
        half = refl;
        unguarded = e;
        bytes = a.0;
        marks = a.1;
      }

  allowed : (p : ℕ) → p < 32 → differs old image p ≡ true → get_or now.protection (p / 8) false ≡ false
  allowed p l d = open-page old image now 32 p l (unfold forbidden in asked.allowed) d

  -- the pages 0 to p - 1, run from there
  abbrev pub pages : ℕ → List Event
  pages p = pages_before old image now k p

  abbrev pub acts : ℕ → List Act
  acts p = acts_before old image now k p

  pub own : (p : ℕ) → p ≤ 32 → Ran k (acts p) now old (own_before old image now p) (bytes_before old image p) (differing old image p)
  own p h = own-run old image now base k asked.below old-length asked.wanted allowed p h

  pub acted : (p : ℕ) → p ≤ 32 → Acted kinds (pages p) (acts p)
  acted p h = pages-acted kinds old image now k asked.below asked.bytes p h

  ran : (p : ℕ) → p ≤ 32 → (after (pages p) (settled x) ≡ went (acts p) (settled x)) × (answers (pages p) (settled x) ≡ told (acts p) (settled x))
  ran p h = acted-after kinds (settled x) (settled-sound x asked.long asked.ranged) (acted p h)

  pub run-before : (p : ℕ) → after (five_ticks ++ pages p) x ≡ after (pages p) (settled x)
  unfolding settled
  run-before p = after-joined five_ticks (pages p) x

  module _ (p : ℕ) (h : p ≤ 32) where
    abbrev bench : Bench
    bench = after (five_ticks ++ pages p) x

    went-there : bench ≡ went (acts p) (settled x)
    went-there = run-before p ∙ (ran p h).0

    -- slot k and its bytes
    pub own-slot : slot_at k bench ≡ own_before old image now p
    unfolding slot_at
    own-slot = ap (slot_at k) went-there ∙ slot-went absent_slot k (acts p) (settled x) (settled-there k asked.below) ∙ (own p h).slot

    pub own-bytes : bytes_at k bench ≡ bytes_before old image p
    unfolding slot_at bytes_at
    own-bytes = ap (bytes_at k) went-there ∙ part-went absent_slot k (acts p) (settled x) (settled-there k asked.below) ∙ (own p h).part

    -- another slot and its bytes
    module _ (i : ℕ) (l : i < slot_count) (other : i ≡ k → ⊥) where
      one-slot : slot_at i bench ≡ slot_after i (acts p) (slot_at i (settled x))
      unfolding slot_at
      one-slot = ap (slot_at i) went-there ∙ slot-went absent_slot i (acts p) (settled x) (settled-there i l)

      one-part : bytes_at i bench ≡ part_after i (acts p) (slot_at i (settled x)) (bytes_at i (settled x))
      unfolding slot_at bytes_at
      one-part = ap (bytes_at i) went-there ∙ part-went absent_slot i (acts p) (settled x) (settled-there i l)

      passed : absent (slot_at i (settled x)) ≡ false → Passed i (acts p) (slot_at i (settled x)) (bytes_at i (settled x)) (other_before old image now i (slot_at i (settled x)) p)
      passed a = other-run old image now i (slot_at i (settled x)) a (settled-left x asked.long asked.ranged i (there i l)) k asked.below other p (bytes_at i (settled x)) h

      pub other-slot : absent (slot_at i (settled x)) ≡ false → slot_at i bench ≡ other_before old image now i (slot_at i (settled x)) p
      other-slot a = one-slot ∙ (passed a).slot

      pub absent-slot : absent (slot_at i (settled x)) ≡ true → slot_at i bench ≡ slot_at i (settled x)
      absent-slot a = one-slot ∙ (absent-passed i (acts p) (slot_at i (settled x)) (bytes_at i (settled x)) a).slot

      pub other-bytes : bytes_at i bench ≡ bytes_at i (settled x)
      other-bytes = one-part ∙ by-test (absent (slot_at i (settled x)))
          (λ a. (absent-passed i (acts p) (slot_at i (settled x)) (bytes_at i (settled x)) a).part) (λ a. (passed a).part)

    -- what is answered
    pub all-answered : answers (pages p) (settled x) ≡ map due (pages p)
    all-answered = (ran p h).1 ∙ all-heard k (acts p) (settled x) (settled-there k asked.below) (unfold slot_at bytes_at in (own p h).said) ∙ acted-due kinds (acted p h)
