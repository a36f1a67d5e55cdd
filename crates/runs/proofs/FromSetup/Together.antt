-- What the fields of a slot can be together, after any run from setup: sentences that follow from what is reached, and one form at rest.
-- Assumes nothing.
use Prim.Native.Nat.{◌%◌}
use mathlib.Core.Path.{◌≡◌, refl, sym, ◌∙◌, ap, subst}
use mathlib.Core.Logic.{◌⊎◌, inl, inr, ⊎_elim}
use mathlib.Core.Bool.{Bool, true, false, false≢true}
use mathlib.Core.List.{List}
use borrow.Author.Tests.{ne_eqb}
use Rattle.rules.specs.declared.Phase.{Phase}
use Rattle.rules.specs.declared.Phase.TheVariants.{Idle, Control, Deaf, MemoryData, CommandStop}
use Rattle.rules.specs.declared.Slot.{Slot}
use Rattle.rules.specs.Modelled.{absent, older}
use Rattle.rules.specs.Open.{open-fields}
use Rattle.rules.specs.Fields.{with_word, to_last}
use Rattle.rules.specs.Fresh.{no_marks, fresh_slot, fresh_sensor, absent_slot, at_rest, fresh_older}
use Rattle.rules.specs.Memory.{any_mark}
use Rattle.rules.specs.Slot.{commanding, taking, standing, endures}
use Rattle.runs.proofs.FromSetup.Reached.{rests, page, command, AtRest, Waiting, Taking, Commanding, Sensing, Holds, Outside, worded, holds_by, Reach, none, some, stands-own}

-- an absent slot is fresh: whatever holds of that, and of each phase, holds of what is reached
reach-cases : (P : Slot → Type 0) → P absent_slot → ((p : Phase) (s : Slot) → s.phase ≡ p → Holds p s → P s) → (s : Slot) → Reach s → P s
reach-cases P a h s (none e) = subst P (sym e) a
reach-cases P a h s (some k l q w) = h s.phase s refl q

-- what five kinds of phase have, and an absent slot, a slot that is reached has
reach-by : (P : Phase → Slot → Type 0) → P Idle absent_slot
    → ((s : Slot) (p : Phase) → Outside p → Waiting s → P p s)
    → ((s : Slot) (p : Phase) → commanding p ≡ false → taking p ≡ false → AtRest s → P p s)
    → ((s : Slot) → Taking s → P MemoryData s)
    → ((s : Slot) (p : Phase) → commanding p ≡ true → taking p ≡ false → worded p ≡ false → Commanding s → P p s)
    → ((s : Slot) (p : Phase) → commanding p ≡ false → taking p ≡ false → (worded p ≡ false → s.sensor.word ≡ 0) → Sensing s → P p s)
    → (s : Slot) → Reach s → P s.phase s
reach-by P empty w r t c x = reach-cases (λ (s : Slot). P s.phase s) (unfold absent_slot fresh_slot in empty)
    (λ p s e h. holds_by (λ q. P q s) s (w s) (λ q k l m n. r s q l m) (t s) (λ q k l m n. c s q l m n) (λ q k l m n. x s q l m n) s.phase (subst (λ (q : Phase). Holds q s) (sym e) h))

-- an outside phase is none of a command, of data, or with a word
pub outside-not : (f : Phase → Bool) → f Idle ≡ false → f Deaf ≡ false → f Control ≡ false → (p : Phase) → Outside p → f p ≡ true → ⊥
outside-not f i d c p o e = ⊎_elim (λ q. false≢true (sym i ∙ sym (ap f q) ∙ e)) (λ o. ⊎_elim (λ q. false≢true (sym d ∙ sym (ap f q) ∙ e)) (λ q. false≢true (sym c ∙ sym (ap f q) ∙ e)) o) o

-- "A slot in a write cycle acknowledges none": ticks are left only outside an exchange
pub ticks-outside : (s : Slot) → Reach s → (s.left ≡ 0 → ⊥) → Outside s.phase
ticks-outside = reach-by (λ p s. (s.left ≡ 0 → ⊥) → Outside p) (unfold absent_slot fresh_slot in λ l. absurd (l refl))
    (λ s p o w l. o) (λ s p c t r l. absurd (l r.no-ticks)) (λ s r l. absurd (l r.no-ticks)) (λ s p c t w r l. absurd (l r.no-ticks)) (λ s p c t w r l. absurd (l r.no-ticks))

-- what is to come is what stands
first : {c p : List Bool} {l m : Bool} → ◌≡◌ {A = List Bool × Bool} (c, l) (p, m) → c ≡ p
first e = ap (λ (x : List Bool × Bool). x.0) e

-- a latched byte is there only while data bytes are taken, or while a page's cycle runs, beside which no protection is to come
waits-latched : (s : Slot) → Waiting s → (s.marks ≡ no_marks → ⊥) → (s.left ≡ 0 → ⊥) × (s.coming ≡ s.protection)
waits-latched s (rests r) m = absurd (m r.no-marks)
waits-latched s (page l a c p w) m = (l, first c)
waits-latched s (command l b n p w) m = absurd (m n)

pub latched-where : (s : Slot) → Reach s → (s.marks ≡ no_marks → ⊥) → (s.phase ≡ MemoryData) ⊎ ((s.left ≡ 0 → ⊥) × (s.coming ≡ s.protection))
latched-where = reach-by (λ p s. (s.marks ≡ no_marks → ⊥) → (p ≡ MemoryData) ⊎ ((s.left ≡ 0 → ⊥) × (s.coming ≡ s.protection))) (unfold absent_slot fresh_slot in λ m. absurd (m refl))
    (λ s p o w m. inr (waits-latched s w m)) (λ s p c t r m. absurd (m r.no-marks)) (λ s r m. inl refl) (λ s p c t w r m. absurd (m r.no-marks)) (λ s p c t w r m. absurd (m r.no-marks))

-- a running cycle is a page's, with a byte latched, or a command's, with none
waits-marks : (s : Slot) → Waiting s → (any_mark s.marks ≡ true) ⊎ (s.marks ≡ no_marks)
waits-marks s (rests r) = inr r.no-marks
waits-marks s (page l a c p w) = inl a
waits-marks s (command l b n p w) = inr n

pub cycle-marks : (s : Slot) → Reach s → (s.left ≡ 0 → ⊥) → (any_mark s.marks ≡ true) ⊎ (s.marks ≡ no_marks)
cycle-marks = reach-by (λ p s. (s.left ≡ 0 → ⊥) → (any_mark s.marks ≡ true) ⊎ (s.marks ≡ no_marks)) (unfold absent_slot fresh_slot in λ l. absurd (l refl))
    (λ s p o w l. waits-marks s w) (λ s p c t r l. absurd (l r.no-ticks)) (λ s r l. absurd (l r.no-ticks)) (λ s p c t w r l. absurd (l r.no-ticks)) (λ s p c t w r l. absurd (l r.no-ticks))

-- a protection to come that differs from the one that stands is there only in a protect or clear or in its cycle, and never beside a latched byte
waits-coming : (s : Slot) → Waiting s → (s.coming ≡ s.protection → ⊥) → (s.left ≡ 0 → ⊥) × (s.marks ≡ no_marks)
waits-coming s (rests r) c = absurd (c (first r.steady))
waits-coming s (page l a e p w) c = absurd (c (first e))
waits-coming s (command l b n p w) c = (l, n)

abbrev pub InCommand : Phase → Slot → Type 0
InCommand p s = ((commanding p ≡ true) ⊎ (s.left ≡ 0 → ⊥)) × (s.marks ≡ no_marks)

pub coming-where : (s : Slot) → Reach s → (s.coming ≡ s.protection → ⊥) → InCommand s.phase s
coming-where = reach-by (λ p s. (s.coming ≡ s.protection → ⊥) → InCommand p s) (unfold absent_slot fresh_slot in λ c. absurd (c refl))
    (λ s p o w d. let x = waits-coming s w d in (inr x.0, x.1)) (λ s p c t r d. absurd (d (first r.steady))) (λ s r d. absurd (d (first r.steady))) (λ s p c t w r d. (inl c, r.no-marks)) (λ s p c t w r d. absurd (d (first r.steady)))

-- with no ticks left the slot then stands in a protect or clear
pub command-stands : (s : Slot) → Reach s → (s.coming ≡ s.protection → ⊥) → s.left ≡ 0 → commanding (standing s) ≡ true
unfolding absent
command-stands s (none e) d z = absurd (d (subst (λ (r : Slot). r.coming ≡ r.protection) (sym e) (unfold absent_slot fresh_slot in refl)))
command-stands s (some k l h w) d z = ap commanding (stands-own s (ne_eqb s.kind 0 k) h) ∙ ⊎_elim (λ c. c) (λ n. absurd (n z)) (coming-where s (some k l h w) d).0

-- "high voltage on": it is on in every phase of a protect or clear; P9's lasting form asks for it off at its control byte alone
pub command-high : (s : Slot) → Reach s → commanding s.phase ≡ true → endures s ≡ false → s.voltage ≡ true
unfolding endures older
command-high = reach-by (λ p s. commanding p ≡ true → endures s ≡ false → s.voltage ≡ true) (λ e. absurd (false≢true e))
    (λ s p o w e. absurd (outside-not commanding refl refl refl p o e)) (λ s p c t r e. absurd (false≢true (sym c ∙ e))) (λ s r e. absurd (false≢true e)) (λ s p c t w r e. r.high) (λ s p c t w r e. absurd (false≢true (sym c ∙ e)))

-- "latched at the counter's offset": the place is the counter's offset while data bytes are taken, and 0 otherwise
waits-clear : (s : Slot) → Waiting s → (s.place ≡ 0) × (s.sensor.word ≡ 0)
waits-clear s (rests r) = (r.no_place, r.no_word)
waits-clear s (page l m c p w) = (p, w)
waits-clear s (command l b m p w) = (p, w)

abbrev pub Placed : Phase → Slot → Type 0
Placed p s = (taking p ≡ true → s.place ≡ s.counter % 16) × (taking p ≡ false → s.place ≡ 0)

untaken : (s : Slot) (p : Phase) → taking p ≡ false → s.place ≡ 0 → Placed p s
untaken s p t e = (λ u. absurd (false≢true (sym t ∙ u)), λ u. e)

pub place-where : (s : Slot) → Reach s → Placed s.phase s
place-where = reach-by Placed (untaken absent_slot Idle refl (unfold absent_slot fresh_slot in refl))
    (λ s p o w. (λ u. absurd (outside-not taking refl refl refl p o u), λ u. (waits-clear s w).0)) (λ s p c t r. untaken s p t r.no_place) (λ s r. (λ u. r.in_step, λ u. absurd (false≢true (sym u)))) (λ s p c t w r. untaken s p t r.no_place) (λ s p c t w r. untaken s p t r.no_place)

-- the word is 0 outside the phases that hold a register's bytes
pub word-where : (s : Slot) → Reach s → worded s.phase ≡ false → s.sensor.word ≡ 0
word-where = reach-by (λ p s. worded p ≡ false → s.sensor.word ≡ 0) (unfold absent_slot fresh_slot fresh_sensor in λ e. refl)
    (λ s p o w e. (waits-clear s w).1) (λ s p c t r e. r.no_word) (λ s r e. r.no_word) (λ s p c t w r e. r.no_word) (λ s p c t w r e. w e)

-- where a slot stands while data bytes are taken nothing is to come, and in a command nothing is latched
stands-holds : (s : Slot) (p : Phase) → (s.kind ≡ 0 → ⊥) → Holds s.phase s → standing s ≡ p → Holds p s
unfolding absent
stands-holds s p k h e = subst (λ (q : Phase). Holds q s) (sym (stands-own s (ne_eqb s.kind 0 k) h) ∙ e) h

pub taking-steady : (s : Slot) → Reach s → standing s ≡ MemoryData → s.coming ≡ s.protection
taking-steady s (none e) p = subst (λ (r : Slot). r.coming ≡ r.protection) (sym e) (unfold absent_slot fresh_slot in refl)
taking-steady s (some k l h w) p = first (stands-holds s MemoryData k h p).steady

pub command-bare : (s : Slot) → Reach s → standing s ≡ CommandStop → s.marks ≡ no_marks
command-bare s (none e) p = subst (λ (r : Slot). r.marks ≡ no_marks) (sym e) (unfold absent_slot fresh_slot in refl)
command-bare s (some k l h w) p = (stands-holds s CommandStop k h p).no-marks

-- One form at rest: an idle slot in no cycle is what its kind, length, half, counter, protection, voltage and registers say, an older module also what is
-- permanent and its pin, and nothing else.
idle-rests : (s : Slot) → Reach s → s.phase ≡ Idle → s.left ≡ 0 → AtRest s
idle-rests s (none e) i l = subst AtRest (sym e) (unfold absent_slot fresh_slot fresh_sensor fresh_older in record { no-ticks = refl; no-bytes = refl; no-marks = refl; steady = refl; no_place = refl; no_word = refl })
idle-rests s (some k n h z) i l = calm (subst (λ (p : Phase). Holds p s) i h)
  where
    calm : Waiting s → AtRest s
    calm (rests r) = r
    calm (page t m c p w) = absurd (t l)
    calm (command t b m p w) = absurd (t l)

pub one_form : (s : Slot) → Reach s → s.phase ≡ Idle → s.left ≡ 0
    → s ≡ at_rest s.kind s.length s.half s.counter s.protection s.voltage s.sensor s.old
unfolding at_rest fresh_slot open-fields
one_form s h i l =
    let r = idle-rests s h i l in
    λ t. record {
      kind = s.kind;
      length = s.length;
      left = l t;
      half = s.half;
      counter = s.counter;
      protection = s.protection;
      coming = (r.steady t).0;
      voltage = s.voltage;
      phase = i t;
      latch = r.no-bytes t;
      marks = r.no-marks t;
      place = r.no_place t;
      sensor = with_word (r.no_word t) s.sensor;
      old = to_last (r.steady t).1 s.old;
    }
