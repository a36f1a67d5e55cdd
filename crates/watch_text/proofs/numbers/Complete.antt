-- The numbers are complete: slots with the same numbers are the same.
-- Assumes nothing.
use mathlib.Core.Path.{◌≡◌, refl, sym, ◌∙◌, ap}
use mathlib.Core.Bool.{Bool, true, false, false≢true, not, ◌&&◌, ◌||◌}
use mathlib.Core.List.{List, [], ◌∷◌}
use Prim.Native.Nat.{ℕ, ◌+◌, ◌-◌, ◌<◌}
use native.Mathlib.Omega.{arith}
use borrow.Author.Tests.{eqb-true}
use lib.Dec.{eqb}
use lib.ListN.{length, get_or}
use lib.Seq.{ext_get_or}
use Rattle.proof_lists.specs.Tests.{by-test}
use Rattle.rules.specs.declared.Phase.{Phase}
use Rattle.rules.specs.declared.Phase.TheVariants.{Idle, Control, Deaf, MemoryCounter, MemoryData, MemoryRead, HalfSelected, CommandAddress, CommandData, CommandStop, SensorPointer, SensorHigh, SensorLow, SensorReadHigh, SensorReadLow}
use Rattle.rules.specs.declared.Slot.{Slot}
use Rattle.rules.specs.declared.Older.{Older}
use Rattle.rules.specs.Modelled.{sensing, older}
use Rattle.rules.specs.Fresh.{fresh_older}
use Rattle.rules.specs.Refusals.{pending_in_range}
use Rattle.watch_text.specs.Numbers.{bit, phase_number, plain_numbers, sensor_numbers, pin_numbers, older_numbers, kind_numbers, numbers_of}
use Rattle.watch_text.proofs.numbers.Laws.{Sized, plain_at, protection-at, coming-at, latch-at, mark-at, sensor-at, kind_at, kind_count, kind-length, sensing-has, older-has}

-- a bit and a phase, back from their numbers
bit-back : (a b : Bool) → bit a ≡ bit b → a ≡ b
unfolding bit
bit-back true true e = refl
bit-back true false e = absurd (omega arith)
bit-back false true e = absurd (omega arith)
bit-back false false e = refl

abbrev phase_of : ℕ → Phase
phase_of n =
    get_or (Idle ∷ Control ∷ Deaf ∷ MemoryCounter ∷ MemoryData ∷ MemoryRead ∷ HalfSelected ∷ CommandAddress ∷ CommandData ∷ CommandStop ∷ SensorPointer
    ∷ SensorHigh ∷ SensorLow ∷ SensorReadHigh ∷ SensorReadLow ∷ []) n Idle

phase-back : (p : Phase) → phase_of (phase_number p) ≡ p
unfolding phase_number
phase-back Idle = refl
phase-back Control = refl
phase-back Deaf = refl
phase-back MemoryCounter = refl
phase-back MemoryData = refl
phase-back MemoryRead = refl
phase-back HalfSelected = refl
phase-back CommandAddress = refl
phase-back CommandData = refl
phase-back CommandStop = refl
phase-back SensorPointer = refl
phase-back SensorHigh = refl
phase-back SensorLow = refl
phase-back SensorReadHigh = refl
phase-back SensorReadLow = refl

-- of what is pending a slot without sensor says nothing in its line, since nothing can be: row 6 asks for that
abbrev pub Quiet : Slot → Type 0
Quiet s = sensing s ≡ false → s.sensor.pending ≡ false

pub in-range-quiet : (s : Slot) → pending_in_range s ≡ true → Quiet s
unfolding pending_in_range
in-range-quiet s h e = off s.sensor.pending (sensing s) _ h e
  where
    off : (p b c : Bool) → (not p || b && c) ≡ true → b ≡ false → p ≡ false
    off true true c h e = absurd (false≢true (sym e))
    off true false c h e = absurd (false≢true h)
    off false b c h e = refl

-- nor does a slot that is no older module say what only those have: no run from a setup brings it about (runs, FromSetup/Plain.newer)
abbrev pub Newer : Slot → Type 0
Newer s = older s ≡ false → s.old ≡ fresh_older

module _ (s t : Slot) (y : Sized s) (z : Sized t) (e : numbers_of s ≡ numbers_of t) where
  at : (k : ℕ) → get_or (numbers_of s) k 0 ≡ get_or (numbers_of t) k 0
  at k = ap (λ (l : List ℕ). get_or l k 0) e

  plain : (k : ℕ) → k < 8 → get_or (plain_numbers s) k 0 ≡ get_or (plain_numbers t) k 0
  plain k h = sym (plain_at s k h) ∙ at k ∙ plain_at t k h

  sensor : (k : ℕ) → k < 9 → get_or (sensor_numbers s.sensor) k 0 ≡ get_or (sensor_numbers t.sensor) k 0
  sensor k h =
      let n : k + 48 - 48 ≡ k = omega arith in
      sym (ap (λ i. get_or (sensor_numbers s.sensor) i 0) n) ∙ sensor-at s (k + 48) y (omega arith) (omega arith) ∙ at (k + 48)
      ∙ sym (sensor-at t (k + 48) z (omega arith) (omega arith)) ∙ ap (λ i. get_or (sensor_numbers t.sensor) i 0) n

  kinds : s.kind ≡ t.kind
  unfolding plain_numbers
  kinds = plain 0 (omega arith)

  -- what it has by its kind
  by_kind : kind_numbers s ≡ kind_numbers t
  by_kind =
      ext_get_or 0 (kind_numbers s) (kind_numbers t) (kind-length s ∙ ap kind_count kinds ∙ sym (kind-length t)) (λ k h.
      let c : 57 + k - 57 ≡ k = omega arith in
      sym (ap (λ j. get_or (kind_numbers s) j 0) c) ∙ kind_at s (57 + k) y (omega arith) ∙ at (57 + k)
      ∙ sym (kind_at t (57 + k) z (omega arith)) ∙ ap (λ j. get_or (kind_numbers t) j 0) c)

  pends : Quiet s → Quiet t → s.sensor.pending ≡ t.sensor.pending
  unfolding sensing pin_numbers
  pends q r =
      by-test (sensing s)
      (λ e.
      let k : s.kind ≡ 2 = eqb-true s.kind 2 e in
      bit-back _ _ (ap (λ (l : List ℕ). get_or l 2 0) (sym (sensing-has s k) ∙ by_kind ∙ sensing-has t (sym kinds ∙ k))))
      (λ e. q e ∙ sym (r (ap (λ n. eqb n 2) (sym kinds) ∙ e)))

  olds : Newer s → Newer t → s.old ≡ t.old
  unfolding older older_numbers
  olds q r =
      by-test (older s)
      (λ e.
      let k : s.kind ≡ 3 = eqb-true s.kind 3 e in
      same-older s.old t.old (sym (older-has s k) ∙ by_kind ∙ older-has t (sym kinds ∙ k)))
      (λ e. q e ∙ sym (r (ap (λ n. eqb n 3) (sym kinds) ∙ e)))
    where
      same-older : (x w : Older) → older_numbers x ≡ older_numbers w → x ≡ w
      same-older x w e = λ i. record {
        permanent = bit-back _ _ (ap (λ (l : List ℕ). get_or l 0 0) e) i;
        lasting = bit-back _ _ (ap (λ (l : List ℕ). get_or l 1 0) e) i;
        pin = bit-back _ _ (ap (λ (l : List ℕ). get_or l 2 0) e) i;
      }

  -- an array of bits from place `from` on
  bits : (from n : ℕ) (p q : List Bool) → length p ≡ n → length q ≡ n
      → ((k : ℕ) → k < n → bit (get_or p (from + k - from) false) ≡ get_or (numbers_of s) (from + k) 0)
      → ((k : ℕ) → k < n → bit (get_or q (from + k - from) false) ≡ get_or (numbers_of t) (from + k) 0) → p ≡ q
  bits from n p q l m f g =
      ext_get_or false p q (l ∙ sym m) (λ k h.
      let c : from + k - from ≡ k = omega arith in
      let i : k < n = rw l at h in
      bit-back _ _ (sym (ap (λ j. bit (get_or p j false)) c) ∙ f k i ∙ at (from + k) ∙ sym (g k i) ∙ ap (λ j. bit (get_or q j false)) c))

  latches : s.latch ≡ t.latch
  latches =
      ext_get_or 0 s.latch t.latch (y.2 ∙ sym z.2) (λ k h.
      let c : 16 + k - 16 ≡ k = omega arith in
      let i : k < 16 = rw y.2 at h in
      sym (ap (λ j. get_or s.latch j 0) c) ∙ latch-at s (16 + k) y (omega arith) (omega arith) ∙ at (16 + k)
      ∙ sym (latch-at t (16 + k) z (omega arith) (omega arith)) ∙ ap (λ j. get_or t.latch j 0) c)

  sensors : Quiet s → Quiet t → s.sensor ≡ t.sensor
  unfolding sensor_numbers
  sensors q r = λ i. record {
    pointer = sensor 0 (omega arith) i;
    configuration = sensor 1 (omega arith) i;
    high = sensor 2 (omega arith) i;
    low = sensor 3 (omega arith) i;
    critical = sensor 4 (omega arith) i;
    temperature = sensor 5 (omega arith) i;
    resolution = sensor 6 (omega arith) i;
    timeout = sensor 7 (omega arith) i;
    word = sensor 8 (omega arith) i;
    pending = pends q r i;
  }

  -- EVERY NUMBER IS TOLD: two slots that are told alike, with nothing pending where there is no sensor and nothing of an older
  -- module's in another, are the same slot
  pub numbers-decide : Quiet s → Quiet t → Newer s → Newer t → s ≡ t
  unfolding plain_numbers
  numbers-decide q r u w =
      let p : s.protection ≡ t.protection = bits 8 4 s.protection t.protection y.0 z.0 (λ k h. protection-at s (8 + k) y (omega arith) (omega arith)) (λ k h. protection-at t (8 + k) z (omega arith) (omega arith)) in
      let c : s.coming ≡ t.coming = bits 12 4 s.coming t.coming y.1 z.1 (λ k h. coming-at s (12 + k) y (omega arith) (omega arith)) (λ k h. coming-at t (12 + k) z (omega arith) (omega arith)) in
      let m : s.marks ≡ t.marks = bits 32 16 s.marks t.marks y.3 z.3 (λ k h. mark-at s (32 + k) y (omega arith) (omega arith)) (λ k h. mark-at t (32 + k) z (omega arith) (omega arith)) in
      let v : s.voltage ≡ t.voltage = bit-back _ _ (plain 6 (omega arith)) in
      let a : s.phase ≡ t.phase = sym (phase-back s.phase) ∙ ap phase_of (plain 7 (omega arith)) ∙ phase-back t.phase in
      λ i. record {
        kind = kinds i;
        length = plain 1 (omega arith) i;
        left = plain 2 (omega arith) i;
        half = plain 3 (omega arith) i;
        counter = plain 4 (omega arith) i;
        protection = p i;
        coming = c i;
        voltage = v i;
        phase = a i;
        latch = latches i;
        marks = m i;
        place = plain 5 (omega arith) i;
        sensor = sensors q r i;
        old = olds u w i;
      }
