-- Request P9 beside P1: no plan protects a slot for ever. "With it off at the control byte, 0110, the slot's select number and a write bit protects
-- for ever": so 6Ch is that form in slot 6 and 6Eh in slot 7, of an older module whose voltage is off. But "Halves are selected by 6Ch and 6Eh, with no
-- bytes after them before the stop", and the form without its two bytes does nothing.
-- Assumes nothing.
use Prim.Native.Nat.{ℕ, zero, suc, ◌-◌, ◌<◌, ◌≤◌}
use native.Mathlib.Omega.{arith}
use mathlib.Core.Path.{◌≡◌, refl, sym, ◌∙◌, ap, ap₂}
use mathlib.Core.Bool.{Bool, true, false, not, ◌&&◌, ◌||◌, or-false}
use mathlib.Core.List.{List, ◌++◌}
use lib.Dec.{eqb}
use lib.ListN.{length, replicate}
use borrow.Author.Tests.{eqb-true, eqb-false, eq-eqb}
use Rattle.proof_lists.specs.Tests.{by-test, cond_cases}
use Rattle.rules.specs.declared.Act.TheVariants.{Tick}
use Rattle.rules.specs.declared.Event.{Event}
use Rattle.rules.specs.declared.Phase.TheVariants.{Idle}
use Rattle.rules.specs.declared.Slot.{Slot}
use Rattle.rules.specs.Modelled.{absent, older, slot_count}
use Rattle.rules.specs.Open.{open-fields, open-memory}
use Rattle.rules.specs.Fields.{with_left, to_come}
use Rattle.rules.specs.Memory.{cancelled, ended}
use Rattle.rules.specs.Power.{running}
use Rattle.rules.specs.Refusals.{slot_in_range}
use Rattle.rules.specs.Runs.{Bench, after, slot_after}
use Rattle.rules.proofs.Document.Cycle.{idle-slot}
use Rattle.rules.proofs.Document.Exchange.{last-tick, other-tick}
use Rattle.rules.proofs.Memory.Protection.{number-after}
use Rattle.rules.proofs.Range.Kept.{facts}
use Rattle.runs.proofs.Document.Olders.{permanent-never-lost}
use Rattle.runs.proofs.TwoClerks.Foreign.{absent-after}
use Rattle.runs.proofs.TwoClerks.Joined.{after-joined}
use Rattle.plan_rules.specs.Plan.{settled, slot_at, bytes_at, plan_events, page_count, page_half, differs, half_before}
use Rattle.plan_rules.specs.Effect.{touched, opens, feels, leaving, rested, felt_before, own_before, other_before}
use Rattle.plan_rules.proofs.Settled.{five_times, settled-slot, slot-ranged, short-cycle, absent-left}
use Rattle.plan_rules.proofs.LetGo.{let-go-lasts}
use Rattle.plan_rules.proofs.Carried.{Asked, there}
use Rattle.plan_rules.proofs.Right.{done, is_right, does-no-more, other-holds, each}

-- so many ticks as a cycle has left end it, and the rest do nothing
ticks-end : (j : ℕ) (s : Slot) → absent s ≡ false → s.left ≤ j → (s.left ≡ 0 → ⊥) → slot_after 0 (replicate j Tick) s ≡ ended s
unfolding slot_after absent open-memory open-fields older
ticks-end zero s a l z = absurd (z (omega arith))
ticks-end (suc j) s a l z = by-test (eqb s.left 1)
    (λ e. ap (slot_after 0 (replicate j Tick)) (last-tick 0 s a (eqb-true s.left 1 e)) ∙ idle-slot 0 j (ended s) refl)
    (λ e. let ne = eqb-false s.left 1 e in
    ap (slot_after 0 (replicate j Tick)) (other-tick 0 s a ne) ∙ ticks-end j (with_left (s.left - 1) s) a (omega (arith, l)) (λ f. omega (arith, z, ne, f)))

-- what the five ticks leave permanent: what was so, and what a lasting form's cycle that ran already makes so at its end
permanent-settled : (s : Slot) → slot_in_range s ≡ true → (slot_after 0 five_times s).old.permanent ≡ s.old.permanent || running s && s.old.lasting
unfolding running
permanent-settled s v = by-test (absent s)
    (λ a. ap (λ (t : Slot). t.old.permanent) (absent-after 0 five_times s a) ∙ rw (eq-eqb s.left 0 (absent-left s v a)) (sym (or-false s.old.permanent)))
    (λ a. by-test (eqb s.left 0)
    (λ e. ap (λ (t : Slot). t.old.permanent) (idle-slot 0 5 s (eqb-true s.left 0 e)) ∙ rw e (sym (or-false s.old.permanent)))
    (λ e. ap (λ (t : Slot). t.old.permanent) (ticks-end 5 s a (let l = short-cycle s v in let f = (facts s v).lefts in omega arith) (eqb-false s.left 0 e)) ∙ rw e (unfold open-memory open-fields in refl)))

-- no lasting form is opened that stays
module _ (old image : List ℕ) (s : Slot) (p : ℕ) where
  own-calm : s.old.lasting ≡ false → (own_before old image s p).old.lasting ≡ false
  unfolding own_before rested open-memory open-fields
  own-calm e = cond_cases (λ (r : Slot). r.old.lasting ≡ false) (touched old image p) (λ z. refl) (λ z. e)

  other-calm : (n : ℕ) (t : Slot) → t.old.lasting ≡ false → (other_before old image s n t p).old.lasting ≡ false
  unfolding leaving open-memory open-fields
  other-calm n t e = other-holds old image s p n t (λ (r : Slot). r.old.lasting ≡ false) (λ w h. refl) (λ j w h. h) e ((let-go-lasts t).not-lasting e)

-- What a plan leaves of slot i, itself or another, older or not, of any bench that is handed in.
pub record Spared (k : ℕ) (x : Bench) (image : List ℕ) (i : ℕ) : Type 0 where
  -- permanent is what the five ticks leave so: what was so before the plan, or by a lasting form's cycle that ran already
  pub permanent : (slot_at i (done k x image)).old.permanent ≡ (slot_at i (settled x)).old.permanent
  pub from-before : (slot_at i (done k x image)).old.permanent ≡ (slot_at i x).old.permanent || running (slot_at i x) && (slot_at i x).old.lasting
  -- no cycle runs that could make it so; and where a page was written no lasting form is open
  pub no-cycle : (slot_at i (done k x image)).left ≡ 0
  pub closed : touched (bytes_at k (settled x)) image page_count ≡ true → absent (slot_at i x) ≡ false → (slot_at i (done k x image)).phase ≡ Idle
  pub not-lasting : (slot_at i (settled x)).old.lasting ≡ false → (slot_at i (done k x image)).old.lasting ≡ false

module _ (k : ℕ) (x : Bench) (image : List ℕ) (asked : Asked k x image) (i : ℕ) (l : i < slot_count) where
  same-permanent : (slot_at i (done k x image)).old.permanent ≡ (slot_at i (settled x)).old.permanent
  same-permanent = ((does-no-more k x image asked).kept i l).permanent

  pub spares : Spared k x image i
  spares =
      let in_place = there k x image asked i l in
      record {
        permanent = same-permanent;
        from-before = same-permanent ∙ ap (λ (s : Slot). s.old.permanent) (settled-slot i x asked.long asked.ranged in_place)
            ∙ permanent-settled (slot_at i x) (slot-ranged x asked.long asked.ranged i in_place);
        no-cycle = (is_right k x image asked).no-cycle i l;
        closed = λ e a. (is_right k x image asked).idle e i l a;
        not-lasting = each k x image asked (λ s t. s.old.lasting ≡ false → t.old.lasting ≡ false) i l
            (own-calm (bytes_at k (settled x)) image (slot_at k (settled x)) page_count)
            (other-calm (bytes_at k (settled x)) image (slot_at k (settled x)) page_count i) (λ t e. e);
      }

  -- where no lasting form's cycle runs, permanent is what was so before
  pub never-permanent : running (slot_at i x) && (slot_at i x).old.lasting ≡ false
      → (slot_at i (done k x image)).old.permanent ≡ (slot_at i x).old.permanent
  never-permanent e = spares.from-before ∙ rw e (or-false (slot_at i x).old.permanent)

  -- and so at every record of the plan on the way, since permanent protection is never lost
  pub at-no-record : (es fs : List Event) → es ++ fs ≡ plan_events k x image → (slot_at i (after es x)).old.permanent ≡ true
      → (slot_at i x).old.permanent || running (slot_at i x) && (slot_at i x).old.lasting ≡ true
  unfolding slot_at
  at-no-record es fs e p =
      let in_place : i < length (after es x).bus.slots = rw (number-after es x) (there k x image asked i l) in
      sym spares.from-before ∙ ap (λ (r : List Event). (slot_at i (after r x)).old.permanent) (sym e)
      ∙ ap (λ (y : Bench). (slot_at i y).old.permanent) (after-joined es fs x) ∙ permanent-never-lost i fs (after es x) in_place p

-- An older neighbour has no halves, and the form that it opened is cancelled. So of one with nothing to come, as every slot has it that is in no exchange
-- and in no cycle in a run from setup (`runs`: `FromSetup/Reached`), the halves leave all as it was.
module _ (u : Slot) (is-older : older u ≡ true) (none : u.coming ≡ u.protection) (calm : u.old.lasting ≡ false) where
  nothing-cancelled : cancelled u ≡ u
  unfolding open-memory open-fields
  nothing-cancelled = ap₂ (λ (c : List Bool) (b : Bool). to_come c b u) (sym none) (sym calm)

  feels-none : (n h : ℕ) → feels n h u ≡ u
  unfolding feels
  feels-none n h = rw is-older (cond_cases (λ (w : Slot). w ≡ u) (opens n h u) (λ e. nothing-cancelled) (λ e. refl))

  pub older-unmoved : (old image : List ℕ) (s : Slot) (n p : ℕ) → felt_before old image s n u p ≡ u
  unfolding felt_before
  older-unmoved old image s n zero = refl
  older-unmoved old image s n (suc p) =
      let i : felt_before old image s n u p ≡ u = older-unmoved old image s n p in
      cond_cases (λ (w : Slot). w ≡ u) (differs old image p && not (eqb (page_half p) (half_before old image s p)))
      (λ e. ap (feels n (page_half p)) i ∙ feels-none n (page_half p)) (λ e. i)
