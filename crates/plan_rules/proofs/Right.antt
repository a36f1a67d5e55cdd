-- Request P1, theorems 1 and 2: running a plan leaves exactly the image in the slot, and does no more.
-- Assumes nothing.
use Prim.Native.Nat.{ℕ, ◌<◌}
use native.Mathlib.Omega.{arith}
use mathlib.Core.Path.{◌≡◌, refl, sym, ◌∙◌, ap, ap₂, subst}
use mathlib.Core.Bool.{Bool, true, false}
use mathlib.Core.List.{List, ◌++◌, map}
use lib.Dec.{eqb}
use lib.ListN.{length}
use borrow.Author.Tests.{eqb-true, eqb-false}
use Rattle.proof_lists.specs.Tests.{by-test, cond_cases}
use Rattle.rules.specs.declared.Phase.TheVariants.{Idle}
use Rattle.rules.specs.declared.Slot.{Slot}
use Rattle.rules.specs.Modelled.{absent, slot_count, memory_bytes}
use Rattle.rules.specs.Open.{open-fields, open-memory}
use Rattle.rules.specs.Fields.{in_half, with_word}
use Rattle.rules.specs.Memory.{cancelled}
use Rattle.rules.specs.Slot.{standing, let_go, present_next, slot_next}
use Rattle.rules.specs.Bus.{shown_for, shown}
use Rattle.rules.specs.Refusals.{kinds_of}
use Rattle.rules.specs.Runs.{Bench, given, after, answers, slot_after, part_after}
use Rattle.runs.specs.Exchanges.{acts_of, told, alone_for, shown_alone, told_alone}
use Rattle.rules.proofs.Memory.Stored.{memory-length-after}
use Rattle.runs.proofs.TwoClerks.Joined.{answers-joined}
use Rattle.plan_rules.specs.Plan.{five, ticks, five_ticks, settled, slot_at, bytes_at, page_count, plan_events}
use Rattle.plan_rules.specs.Effect.{due, leaving, rested, touched, own_before, other_before}
use Rattle.plan_rules.proofs.Settled.{five_times, settled-slot, settled-part, settled-left, settled-kind}
use Rattle.plan_rules.proofs.LetGo.{let-go-lasts}
use Rattle.plan_rules.proofs.Felt.{felt-keeps, felt-idle}
use Rattle.plan_rules.proofs.Ran.{due_for, due_to, told-joined}
use Rattle.plan_rules.proofs.Pages.{bytes_before, image-stands}
use Rattle.plan_rules.proofs.Acted.{Acted, acted-joined, acted-acts, acted-due, acted-after, ticks-acted}
use Rattle.plan_rules.proofs.Carried.{Asked, there, old-length, acts, pages, own, acted, own-slot, own-bytes, other-slot, absent-slot, other-bytes, all-answered}

-- the bench when a plan was run
abbrev pub done : ℕ → Bench → List ℕ → Bench
done k x image = after (plan_events k x image) x

-- 1. "running them leaves exactly the image in that slot": no record is refused, every byte is acknowledged, and by the slot itself (alone on the bus it would
-- give the same answers); at the end no slot is in a write cycle, and if a page was written every present slot is idle.
pub record Right (k : ℕ) (x : Bench) (image : List ℕ) : Type 0 where
  pub stands : bytes_at k (done k x image) ≡ image
  pub answered : answers (plan_events k x image) x ≡ map due (plan_events k x image)
  pub itself : told_alone k (acts_of (kinds_of x.bus) (plan_events k x image)) (slot_at k x) (bytes_at k x) ≡ map due (plan_events k x image)
  pub no-cycle : (i : ℕ) → i < slot_count → (slot_at i (done k x image)).left ≡ 0
  pub idle : touched (bytes_at k (settled x)) image page_count ≡ true → (i : ℕ) → i < slot_count → absent (slot_at i x) ≡ false → (slot_at i (done k x image)).phase ≡ Idle

-- what a slot keeps: all but the exchange it stood in, its half and its counter; of the sensor all registers and the pointer; of an older module
-- permanence and the write-protect pin
pub record Kept (s t : Slot) : Type 0 where
  pub kind : t.kind ≡ s.kind
  pub length : t.length ≡ s.length
  pub protection : t.protection ≡ s.protection
  pub voltage : t.voltage ≡ s.voltage
  pub registers : with_word 0 t.sensor ≡ with_word 0 s.sensor
  pub permanent : t.old.permanent ≡ s.old.permanent
  pub pin : t.old.pin ≡ s.old.pin

-- 2. "protection stays as they leave it" and it does no more: every slot exactly as it then is, and every byte outside the slot.
pub record NoMore (k : ℕ) (x : Bench) (image : List ℕ) : Type 0 where
  pub own : slot_at k (done k x image) ≡ own_before (bytes_at k (settled x)) image (slot_at k (settled x)) page_count
  pub others : (i : ℕ) → i < slot_count → (i ≡ k → ⊥) → absent (slot_at i x) ≡ false
      → slot_at i (done k x image) ≡ other_before (bytes_at k (settled x)) image (slot_at k (settled x)) i (slot_at i (settled x)) page_count
  pub absents : (i : ℕ) → i < slot_count → (i ≡ k → ⊥) → absent (slot_at i x) ≡ true → slot_at i (done k x image) ≡ slot_at i (settled x)
  pub outside : (i : ℕ) → i < slot_count → (i ≡ k → ⊥) → bytes_at i (done k x image) ≡ bytes_at i (settled x)
  pub number : length (done k x image).memory ≡ memory_bytes
  pub kept : (i : ℕ) → i < slot_count → Kept (slot_at i (settled x)) (slot_at i (done k x image))
  pub counters : (i : ℕ) → i < slot_count → (i ≡ k → ⊥) → (slot_at i (done k x image)).counter ≡ (slot_at i (settled x)).counter

-- what is let go is none of what is kept
let-go-kept : (s : Slot) → Kept s (let_go (standing s) s)
let-go-kept s = let l = let-go-lasts s in record { kind = l.kind; length = l.length; protection = l.protection; voltage = l.voltage; registers = l.registers; permanent = l.permanent; pin = l.pin }

kept-all : (s : Slot) → Kept s s
kept-all s = record { kind = refl; length = refl; protection = refl; voltage = refl; registers = refl; permanent = refl; pin = refl }

-- of the closed forms
module _ (old image : List ℕ) (s : Slot) (p : ℕ) where
  own-kept : Kept s (own_before old image s p)
  unfolding own_before rested leaving open-memory open-fields
  own-kept = cond_cases (Kept s) (touched old image p)
      (λ e. let g = let-go-kept s in record { kind = g.kind; length = g.length; protection = g.protection; voltage = g.voltage; registers = g.registers; permanent = g.permanent; pin = g.pin })
      (λ e. kept-all s)

  own-left : s.left ≡ 0 → (own_before old image s p).left ≡ 0
  unfolding own_before rested open-fields
  own-left z = cond_cases (λ (t : Slot). t.left ≡ 0) (touched old image p) (λ e. refl) (λ e. z)

  own-idle : touched old image p ≡ true → (own_before old image s p).phase ≡ Idle
  unfolding own_before rested leaving open-memory open-fields
  own-idle e = rw e

  -- another slot n: it leaves its exchange, and feels the halves
  module _ (n : ℕ) (t : Slot) where
    pub other-holds : (P : Slot → Type 0) → ((w : Slot) → P w → P (cancelled w)) → ((h : ℕ) (w : Slot) → P w → P (in_half h w)) → P t → P (leaving t) → P (other_before old image s n t p)
    unfolding other_before
    other-holds P cancels selects stays leaves = cond_cases P (touched old image p) (λ e. felt-keeps old image s n P cancels selects (leaving t) p leaves) (λ e. stays)

    other-kept : Kept t (other_before old image s n t p)
    unfolding leaving open-memory open-fields
    other-kept = other-holds (Kept t)
        (λ w h. record { kind = h.kind; length = h.length; protection = h.protection; voltage = h.voltage; registers = h.registers; permanent = h.permanent; pin = h.pin })
        (λ j w h. record { kind = h.kind; length = h.length; protection = h.protection; voltage = h.voltage; registers = h.registers; permanent = h.permanent; pin = h.pin })
        (kept-all t)
        (let h = let-go-kept t in record { kind = h.kind; length = h.length; protection = h.protection; voltage = h.voltage; registers = h.registers; permanent = h.permanent; pin = h.pin })

    other-left : t.left ≡ 0 → (other_before old image s n t p).left ≡ 0
    unfolding leaving open-memory open-fields
    other-left z = other-holds (λ (r : Slot). r.left ≡ 0) (λ w h. h) (λ j w h. h) z ((let-go-lasts t).left ∙ z)

    other-counter : (other_before old image s n t p).counter ≡ t.counter
    unfolding leaving open-memory open-fields
    other-counter = other-holds (λ (r : Slot). r.counter ≡ t.counter) (λ w h. h) (λ j w h. h) refl (let-go-lasts t).counter

    other-idle : touched old image p ≡ true → (other_before old image s n t p).phase ≡ Idle
    unfolding other_before leaving open-fields
    other-idle e = rw e (felt-idle old image s n (leaving t) p refl)

module _ (k : ℕ) (x : Bench) (image : List ℕ) (asked : Asked k x image) where
  -- present before the ticks and after them
  present-settled : (i : ℕ) → i < slot_count → (b : Bool) → absent (slot_at i x) ≡ b → absent (slot_at i (settled x)) ≡ b
  unfolding absent
  present-settled i l b a = rw (settled-kind x asked.long asked.ranged i (there k x image asked i l)) a

  still : (i : ℕ) → i < slot_count → (slot_at i (settled x)).left ≡ 0
  still i l = settled-left x asked.long asked.ranged i (there k x image asked i l)

  abbrev now : Slot
  now = slot_at k (settled x)

  abbrev old : List ℕ
  old = bytes_at k (settled x)

  mine : slot_at k (done k x image) ≡ own_before old image now page_count
  unfolding plan_events
  mine = own-slot k x image asked 32 (omega arith)

  theirs : (i : ℕ) → i < slot_count → (i ≡ k → ⊥) → absent (slot_at i x) ≡ false → slot_at i (done k x image) ≡ other_before old image now i (slot_at i (settled x)) page_count
  unfolding plan_events
  theirs i l ne a = other-slot k x image asked 32 (omega arith) i l ne (present-settled i l false a)

  nobody's : (i : ℕ) → i < slot_count → (i ≡ k → ⊥) → absent (slot_at i x) ≡ true → slot_at i (done k x image) ≡ slot_at i (settled x)
  unfolding plan_events
  nobody's i l ne a = absent-slot k x image asked 32 (omega arith) i l ne (present-settled i l true a)

  -- the slot itself, another one that is present, one that is absent
  pub each : (P : Slot → Slot → Type 0) (i : ℕ) → i < slot_count → P now (own_before old image now page_count)
      → ((t : Slot) → P t (other_before old image now i t page_count)) → ((t : Slot) → P t t)
      → P (slot_at i (settled x)) (slot_at i (done k x image))
  each P i l f g h = by-test (eqb i k)
      (λ e. subst (λ (j : ℕ). P (slot_at j (settled x)) (slot_at j (done k x image))) (sym (eqb-true i k e)) (subst (P now) (sym mine) f))
      (λ e. by-test (absent (slot_at i x))
      (λ a. subst (P (slot_at i (settled x))) (sym (nobody's i l (eqb-false i k e) a)) (h (slot_at i (settled x))))
      (λ a. subst (P (slot_at i (settled x))) (sym (theirs i l (eqb-false i k e) a)) (g (slot_at i (settled x)))))

  pub does-no-more : NoMore k x image
  does-no-more = record {
    own = mine;
    others = theirs;
    absents = nobody's;
    outside = λ i l ne. unfold plan_events in other-bytes k x image asked 32 (omega arith) i l ne;
    number = memory-length-after (plan_events k x image) x ∙ asked.long;
    kept = λ i l. each Kept i l (own-kept old image now page_count) (other-kept old image now page_count i) kept-all;
    counters = λ i l ne. by-test (absent (slot_at i x))
        (λ a. ap (λ (s : Slot). s.counter) (nobody's i l ne a))
        (λ a. ap (λ (s : Slot). s.counter) (theirs i l ne a) ∙ other-counter old image now page_count i (slot_at i (settled x)));
  }

  -- the five ticks are answered nothing
  ticks-answered : answers five_ticks x ≡ map due five_ticks
  unfolding five_ticks
  ticks-answered =
      (acted-after (kinds_of x.bus) x (record { long = asked.long; ranged = asked.ranged; alike = refl }) (ticks-acted (kinds_of x.bus) five)).1
      ∙ unfold told given shown shown_for ticks due in refl

  whole-acted : Acted (kinds_of x.bus) (plan_events k x image) (five_times ++ acts k x image asked 32)
  unfolding plan_events five_ticks
  whole-acted = acted-joined (kinds_of x.bus) (ticks-acted (kinds_of x.bus) five) (acted k x image asked 32 (omega arith))

  all_said : answers (plan_events k x image) x ≡ map due (plan_events k x image)
  unfolding plan_events settled
  all_said =
      answers-joined five_ticks (pages k x image asked 32) x
      ∙ ap₂ ◌++◌ ticks-answered (unfold settled in all-answered k x image asked 32 (omega arith))
      ∙ unfold five_ticks ticks in refl

  self-said : told_alone k (acts_of (kinds_of x.bus) (plan_events k x image)) (slot_at k x) (bytes_at k x) ≡ map due (plan_events k x image)
  unfolding slot_after part_after slot_next present_next told_alone shown_alone alone_for due_for
  self-said =
      ap (λ r. told_alone k r (slot_at k x) (bytes_at k x)) (acted-acts (kinds_of x.bus) whole-acted)
      ∙ told-joined k five_times (acts k x image asked 32) (slot_at k x) (bytes_at k x)
      ∙ ap₂ (λ (s : Slot) (m : List ℕ). map due_to five_times ++ told_alone k (acts k x image asked 32) s m)
      (sym (settled-slot k x asked.long asked.ranged (there k x image asked k asked.below))) (sym (settled-part k x asked.long asked.ranged (there k x image asked k asked.below)))
      ∙ ap (map due_to five_times ++◌) (own k x image asked 32 (omega arith)).said
      ∙ acted-due (kinds_of x.bus) whole-acted

  bytes-stand : bytes_at k (done k x image) ≡ bytes_before old image page_count
  unfolding plan_events
  bytes-stand = own-bytes k x image asked 32 (omega arith)

  pub is_right : Right k x image
  is_right = record {
    stands = bytes-stand ∙ image-stands old image (old-length k x image asked) asked.wanted;
    answered = all_said;
    itself = self-said;
    no-cycle = λ i l. each (λ s t. s.left ≡ 0 → t.left ≡ 0) i l (own-left old image now page_count) (other-left old image now page_count i) (λ t z. z) (still i l);
    idle = λ e i l a. by-test (eqb i k)
        (λ f. subst (λ (j : ℕ). (slot_at j (done k x image)).phase ≡ Idle) (sym (eqb-true i k f)) (ap (λ (s : Slot). s.phase) mine ∙ own-idle old image now page_count e))
        (λ f. ap (λ (s : Slot). s.phase) (theirs i l (eqb-false i k f) a) ∙ other-idle old image now page_count i (slot_at i (settled x)) e);
  }
