-- One slot: its shares of the fields, read in their turn, make it what a form keeps of it; and what is kept is written as the slot was.
-- Assumes nothing.
use Prim.Native.Nat.{ℕ, zero, suc, ◌+◌, ◌*◌, ◌/◌, ◌%◌, ◌≤◌, ◌<◌}
use native.Mathlib.Nat.{add-zero, add_assoc}
use native.Mathlib.Numerals.{add-one}
use native.Mathlib.Omega.{arith}
use mathlib.Core.Path.{◌≡◌, refl, sym, ◌∙◌, ap, ap₂}
use mathlib.Core.Bool.{Bool, true, false, false≢true, cond, ◌||◌}
use mathlib.Core.List.{List, [], ◌∷◌}
use lib.Dec.{eqb}
use lib.ListN.{length, get_or, take}
use borrow.Author.Tests.{eqb-true, eqb-false}
use Rattle.proof_lists.specs.Tests.{cond_cases, by-test, and_left, and_right, or_left_false, or_right_false, bit-back}
use Rattle.rules.specs.declared.Older.{Older}
use Rattle.rules.specs.declared.Sensor.{Sensor}
use Rattle.rules.specs.declared.Slot.{Slot}
use Rattle.rules.specs.Modelled.{absent, sensing, older, bytes_of}
use Rattle.rules.specs.Open.{open-fields}
use Rattle.rules.specs.Fields.{in_half, at_counter, with_voltage, protecting, expecting, with_sensor, with_word, with_pending, with_old, to_last}
use Rattle.rules.specs.Fresh.{fresh_sensor, fresh_older, fresh_slot, setup_slot, absent_slot, at_rest}
use Rattle.rules.specs.Sensor.{register_of, resolution_bits, timeout_bits}
use Rattle.rules.specs.Refusals.{sensor_in_range}
use Rattle.rules.proofs.Registers.Pending.{Pends, fresh-pends, word-pends}
use Rattle.rules.proofs.Registers.SensorKept.{fresh_kept, word_kept}
use Rattle.rules.proofs.Range.Kept.{InRange}
use Rattle.script_text.specs.Records.{pair_at}
use Rattle.save_rules.specs.Form.{word_of, word_at, bits_of, bits_in, setup_field, memory_field, state_bytes, state_from, state_field, registers_to, sensor_bytes, sensor_from, sensor_field, pending_field, older_byte, older_from, older_field, fields, field_count, fixed_count, field_at, share_of}
use Rattle.save_rules.specs.Reading.{size_in}
use Rattle.save_rules.specs.Rested.{rested}
use Rattle.save_rules.proofs.Bits.{word-of-bytes, bits_back, kept_small}
use Rattle.save_rules.proofs.Places.{fixed}

-- a slot at rest with a sensor's registers and what only older slots have, and what is kept of each
unfoldable pub rested_with : Sensor → Older → Slot → Slot
rested_with x o s = cond (absent s) absent_slot (at_rest s.kind s.length s.half s.counter s.protection s.voltage x o)

unfoldable pub kept_sensor : Slot → Sensor
kept_sensor s = cond (sensing s) s.sensor fresh_sensor

unfoldable pub kept_older : Slot → Older
kept_older s = cond (older s) s.old fresh_older

-- what is read of a slot after the first t fields
unfoldable pub stage : ℕ → Slot → Slot
stage zero s = absent_slot
stage (suc zero) s = fresh_slot s.kind s.length
stage (suc (suc zero)) s = fresh_slot s.kind s.length
stage (suc (suc (suc zero))) s = rested_with fresh_sensor fresh_older s
stage (suc (suc (suc (suc zero)))) s = rested_with (with_pending false (kept_sensor s)) fresh_older s
stage (suc (suc (suc (suc (suc zero))))) s = rested_with (kept_sensor s) fresh_older s
stage (suc (suc (suc (suc (suc (suc t)))))) s = rested s

-- a slot in range: its registers 08h and 09h fit in a byte, and an absent one has no length
pub resolution-small : (x : Sensor) → sensor_in_range x ≡ true → x.resolution ≤ 3
unfolding sensor_in_range
resolution-small x e = kept_small resolution_bits x.resolution (search (and_left, and_right) depth 9)

pub timeout-small : (x : Sensor) → sensor_in_range x ≡ true → x.timeout ≤ 1
unfolding sensor_in_range
timeout-small x e = kept_small timeout_bits x.timeout (search (and_left, and_right) depth 9)

pub length-zero : (s : Slot) → InRange s → absent s ≡ true → s.length ≡ 0
unfolding absent
length-zero s v a = eqb-true s.length 0 (rw a at v.lengths)

pub absent-fresh : (s : Slot) → InRange s → absent s ≡ true → fresh_slot s.kind s.length ≡ absent_slot
unfolding absent absent_slot
absent-fresh s v a = ap₂ fresh_slot (eqb-true s.kind 0 a) (length-zero s v a)

set-up : (s : Slot) → InRange s → setup_slot (record { kind = s.kind; length = s.length }) ≡ fresh_slot s.kind s.length
unfolding setup_slot absent
set-up s v = by-test (eqb s.kind 0) (λ a. rw a (ap (fresh_slot s.kind) (sym (length-zero s v a)))) (λ a. rw a)

-- a byte with two bits
both_bits : (p q : Bool) → older_from (older_byte (record { permanent = p; lasting = false; pin = q })) ≡ record { permanent = p; lasting = false; pin = q }
unfolding older_from older_byte bits_of
both_bits true true = refl
both_bits true false = refl
both_bits false true = refl
both_bits false false = refl

-- a word from its two bytes
pub word_back : (f : List ℕ) (at v : ℕ) → get_or f at 0 ≡ v / 256 → get_or f (at + 1) 0 ≡ v % 256 → word_at f at ≡ v
unfolding word_at
word_back f at v h l = ap₂ (λ (a b : ℕ). 256 * a + b) h l ∙ word-of-bytes v

module _ (s : Slot) (p f : List ℕ) (at : ℕ) where
  -- slot s's share of the field in row t stands in f from `at` on
  abbrev pub Stands : ℕ → Type 0
  Stands t = (j : ℕ) → j < size_in t s → get_or f (at + j) 0 ≡ get_or (share_of t s p) j 0

  first : (t : ℕ) → Stands t → 0 < size_in t s → get_or f at 0 ≡ get_or (share_of t s p) 0 0
  first t h l = ap (λ (n : ℕ). get_or f n 0) (sym (add-zero at)) ∙ h 0 l

  pair-back : Stands 0 → pair_at f at ≡ record { kind = s.kind; length = s.length }
  unfolding size_in share_of field_at fields setup_field pair_at
  pair-back h = λ i. record { kind = first 0 h (omega arith) i; length = h 1 (omega arith) i }

  state-back : (x : Slot) → absent s ≡ false → length s.protection ≡ 4 → Stands 2
      → state_from f at x ≡ in_half s.half (at_counter s.counter (with_voltage s.voltage (expecting s.protection (protecting s.protection x))))
  unfolding size_in share_of field_at fields state_field state_from state_bytes absent
  state-back x a l h =
      let g : (j : ℕ) → j < 4 → get_or f (at + j) 0 ≡ get_or (state_bytes s) j 0 = rw a at h in
      let b : bits_in 4 (get_or f at 0) ≡ s.protection
      = ap (bits_in 4) (ap (λ (n : ℕ). get_or f n 0) (sym (add-zero at)) ∙ g 0 (omega arith))
      ∙ ap (λ (n : ℕ). bits_in n (bits_of s.protection)) (sym l)
      ∙ bits_back s.protection in
      let v : eqb (get_or f (at + 3) 0) 1 ≡ s.voltage = ap (λ (n : ℕ). eqb n 1) (g 3 (omega arith)) ∙ bit-back s.voltage in
      λ i. in_half (g 1 (omega arith) i) (at_counter (g 2 (omega arith) i) (with_voltage (v i) (expecting (b i) (protecting (b i) x))))

  sensor-back : sensing s ≡ true → sensor_in_range s.sensor ≡ true → Stands 3 → sensor_from f at ≡ with_pending false (with_word 0x0000 s.sensor)
  unfolding with_word with_pending size_in share_of field_at fields sensor_field sensor_from sensor_bytes sensing registers_to word_of register_of word_at
  sensor-back a r h =
      let x = s.sensor in
      let g : (j : ℕ) → j < 15 → get_or f (at + j) 0 ≡ get_or (sensor_bytes x) j 0 = rw a at h in
      let up : (j : ℕ) → suc j < 15 → get_or f (at + j + 1) 0 ≡ get_or (sensor_bytes x) (suc j) 0
      = λ j l. ap (λ (n : ℕ). get_or f n 0) (add_assoc at j 1 ∙ ap (λ (n : ℕ). at + n) (add-one j)) ∙ g (suc j) l in
      let res : x.resolution % 256 ≡ x.resolution = let e = resolution-small x r in omega arith in
      let tim : x.timeout % 256 ≡ x.timeout = let e = timeout-small x r in omega arith in
      λ i. record {
        pointer = (ap (λ (n : ℕ). get_or f n 0) (sym (add-zero at)) ∙ g 0 (omega arith)) i;
        configuration = word_back f (at + 1) x.configuration (g 1 (omega arith)) (up 1 (omega arith)) i;
        high = word_back f (at + 3) x.high (g 3 (omega arith)) (up 3 (omega arith)) i;
        low = word_back f (at + 5) x.low (g 5 (omega arith)) (up 5 (omega arith)) i;
        critical = word_back f (at + 7) x.critical (g 7 (omega arith)) (up 7 (omega arith)) i;
        temperature = word_back f (at + 9) x.temperature (g 9 (omega arith)) (up 9 (omega arith)) i;
        resolution = (g 12 (omega arith) ∙ res) i;
        timeout = (g 14 (omega arith) ∙ tim) i;
        word = 0x0000;
        pending = false;
      }

  pending-back : sensing s ≡ true → Stands 4 → eqb (get_or f at 0) 1 ≡ s.sensor.pending
  unfolding size_in share_of field_at fields pending_field sensing
  pending-back a h =
      let g : (j : ℕ) → j < 1 → get_or f (at + j) 0 ≡ get_or (cond s.sensor.pending 1 0 ∷ []) j 0 = rw a at h in
      ap (λ (n : ℕ). eqb n 1) (ap (λ (n : ℕ). get_or f n 0) (sym (add-zero at)) ∙ g 0 (omega arith)) ∙ bit-back s.sensor.pending

  older-back : older s ≡ true → Stands 5 → older_from (get_or f at 0) ≡ to_last false s.old
  unfolding size_in share_of field_at fields older_field older_byte older_from older to_last
  older-back a h =
      let g : (j : ℕ) → j < 1 → get_or f (at + j) 0 ≡ get_or (older_byte s.old ∷ []) j 0 = rw a at h in
      ap older_from (ap (λ (n : ℕ). get_or f n 0) (sym (add-zero at)) ∙ g 0 (omega arith)) ∙ both_bits s.old.permanent s.old.pin

  -- so the field in row t takes the slot from one stage to the next
  pub stage-next : (t : ℕ) → t < field_count → InRange s → length s.protection ≡ 4 → Stands t → (field_at t).reads f at (stage t s) ≡ stage (suc t) s
  unfolding fresh_sensor fresh_older stage rested_with kept_sensor kept_older field_at fields setup_field memory_field state_field sensor_field pending_field older_field rested open-fields setup_slot fresh_slot absent_slot at_rest absent sensing older
  stage-next zero l v four h = ap setup_slot (pair-back h) ∙ set-up s v
  stage-next (suc zero) l v four h = refl
  stage-next (suc (suc zero)) l v four h = by-test (eqb s.kind 0) (λ a. rw a (absent-fresh s v a)) (λ a. rw a (state-back (fresh_slot s.kind s.length) a four h))
  stage-next (suc (suc (suc zero))) l v four h = by-test (eqb s.kind 0) (λ a. rw a) λ a.
      by-test (eqb s.kind 2)
      (λ b. rw (a, b)
      (ap (λ (x : Sensor). with_sensor x (at_rest s.kind s.length s.half s.counter s.protection s.voltage fresh_sensor fresh_older)) (sensor-back b v.sensors h)))
      (λ b. rw (a, b))
  stage-next (suc (suc (suc (suc zero)))) l v four h = by-test (eqb s.kind 0) (λ a. rw a) λ a.
      by-test (eqb s.kind 2)
      (λ b. rw (a, b)
      (ap (λ (on : Bool). at_rest s.kind s.length s.half s.counter s.protection s.voltage (with_pending on s.sensor) fresh_older) (pending-back b h)))
      (λ b. rw (a, b))
  stage-next (suc (suc (suc (suc (suc zero))))) l v four h = by-test (eqb s.kind 0) (λ a. rw a) λ a.
      by-test (eqb s.kind 3)
      (λ b. rw (a, b)
      (ap (λ (o : Older). with_old o (at_rest s.kind s.length s.half s.counter s.protection s.voltage (kept_sensor s) fresh_older)) (older-back b h)))
      (λ b. rw (a, b))
  stage-next (suc (suc (suc (suc (suc (suc t)))))) l v four h = absurd (omega arith)

-- and one that the slot does not need leaves it: it is at the next stage as it stands
pub stage-same : (t : ℕ) (s : Slot) → t < field_count → (field_at t).needed s ≡ false → stage t s ≡ stage (suc t) s
unfolding fresh_sensor fresh_older stage rested_with kept_sensor field_at fields setup_field memory_field state_field sensor_field pending_field older_field rested open-fields fresh_slot absent_slot at_rest absent sensing older
stage-same zero s l e = absurd (false≢true (sym e))
stage-same (suc zero) s l e = absurd (false≢true (sym e))
stage-same (suc (suc zero)) s l e = absurd (false≢true (sym e))
stage-same (suc (suc (suc zero))) s l e = absurd (false≢true (sym e))
stage-same (suc (suc (suc (suc zero)))) s l e = by-test (eqb s.kind 0) (λ a. rw a) λ a.
    by-test (eqb s.kind 2)
    (λ b.
    let off : false ≡ s.sensor.pending = sym (rw b at e) in
    rw (a, b) (ap (λ (on : Bool). at_rest s.kind s.length s.half s.counter s.protection s.voltage (with_pending on s.sensor) fresh_older) off))
    (λ b. rw (a, b))
stage-same (suc (suc (suc (suc (suc zero))))) s l e = by-test (eqb s.kind 0) (λ a. rw a) λ a.
    by-test (eqb s.kind 3)
    (λ b.
    let none : (s.old.permanent || s.old.pin) ≡ false = rw b at e in
    let p : false ≡ s.old.permanent = sym (or_left_false s.old.permanent s.old.pin none) in
    let q : false ≡ s.old.pin = sym (or_right_false s.old.permanent s.old.pin none) in
    rw (a, b)
    (λ i. at_rest s.kind s.length s.half s.counter s.protection s.voltage (kept_sensor s) (record { permanent = p i; lasting = false; pin = q i })))
    (λ b. rw (a, b))
stage-same (suc (suc (suc (suc (suc (suc t)))))) s l e = absurd (omega arith)

-- every stage but the first has the slot's kind, so that its shares stand where the slot's do
with-kind : (x : Sensor) (o : Older) (s : Slot) → (rested_with x o s).kind ≡ s.kind
unfolding rested_with absent absent_slot fresh_slot at_rest open-fields
with-kind x o s = by-test (eqb s.kind 0) (λ a. rw a (sym (eqb-true s.kind 0 a))) (λ a. rw a)

pub rested-kind : (s : Slot) → (rested s).kind ≡ s.kind
rested-kind s = unfold rested rested_with kept_sensor kept_older in with-kind (kept_sensor s) (kept_older s) s

stage-kind : (t : ℕ) (s : Slot) → (stage (suc t) s).kind ≡ s.kind
unfolding stage fresh_slot
stage-kind zero s = refl
stage-kind (suc zero) s = refl
stage-kind (suc (suc zero)) s = with-kind fresh_sensor fresh_older s
stage-kind (suc (suc (suc zero))) s = with-kind (with_pending false (kept_sensor s)) fresh_older s
stage-kind (suc (suc (suc (suc zero)))) s = with-kind (kept_sensor s) fresh_older s
stage-kind (suc (suc (suc (suc (suc t))))) s = rested-kind s

pub stage-size : (t u : ℕ) (s : Slot) → u ≤ t → size_in u (stage t s) ≡ size_in u s
stage-size zero u s l = let e : u ≡ 0 = omega arith in rw e (unfold size_in field_at fields setup_field in refl)
stage-size (suc t) u s l = unfold size_in in ap (λ (k : ℕ). (field_at u).size k) (stage-kind t s)

-- an absent slot has no sensor, and is no older one
no-sensing : (s : Slot) → eqb s.kind 0 ≡ true → eqb s.kind 2 ≡ false
no-sensing s a = ap (λ (k : ℕ). eqb k 2) (eqb-true s.kind 0 a)

no-older : (s : Slot) → eqb s.kind 0 ≡ true → eqb s.kind 3 ≡ false
no-older s a = ap (λ (k : ℕ). eqb k 3) (eqb-true s.kind 0 a)

-- What is kept needs what the slot needs; and so does each stage, of the fields that were read.
pub rested-needs : (t : ℕ) (s : Slot) → (field_at t).needed (rested s) ≡ (field_at t).needed s
unfolding field_at fields setup_field memory_field state_field sensor_field pending_field older_field rested open-fields fresh_slot absent_slot at_rest absent sensing older
rested-needs zero s = refl
rested-needs (suc zero) s = refl
rested-needs (suc (suc zero)) s = refl
rested-needs (suc (suc (suc zero))) s = refl
rested-needs (suc (suc (suc (suc zero)))) s = by-test (eqb s.kind 0)
    (λ a. rw (a, no-sensing s a))
    (λ a. by-test (eqb s.kind 2) (λ b. rw (a, b)) (λ b. rw (a, b)))
rested-needs (suc (suc (suc (suc (suc zero))))) s = by-test (eqb s.kind 0)
    (λ a. rw (a, no-older s a))
    (λ a. by-test (eqb s.kind 3) (λ b. rw (a, b)) (λ b. rw (a, b)))
rested-needs (suc (suc (suc (suc (suc (suc t)))))) s = refl

fixed-both : (t : ℕ) (s r : Slot) → t < fixed_count → (field_at t).needed s ≡ (field_at t).needed r
fixed-both t s r h = fixed t s h ∙ sym (fixed t r h)

with-needs : (s : Slot) → (field_at 4).needed (rested_with (kept_sensor s) fresh_older s) ≡ (field_at 4).needed s
unfolding field_at fields pending_field rested_with kept_sensor open-fields fresh_slot absent_slot at_rest absent sensing
with-needs s = by-test (eqb s.kind 0)
    (λ a. rw (a, no-sensing s a))
    (λ a. by-test (eqb s.kind 2) (λ b. rw (a, b)) (λ b. rw (a, b)))

pub stage-needs : (t u : ℕ) (s : Slot) → u < t → (field_at u).needed (stage t s) ≡ (field_at u).needed s
unfolding stage
stage-needs zero u s l = absurd (omega arith)
stage-needs (suc zero) u s l = fixed-both u (stage 1 s) s (omega arith)
stage-needs (suc (suc zero)) u s l = fixed-both u (stage 2 s) s (omega arith)
stage-needs (suc (suc (suc zero))) u s l = fixed-both u (stage 3 s) s (omega arith)
stage-needs (suc (suc (suc (suc zero)))) u s l = fixed-both u (stage 4 s) s (omega arith)
stage-needs (suc (suc (suc (suc (suc zero))))) u s l = by-test (eqb u 4)
    (λ e. let i : u ≡ 4 = eqb-true u 4 e in rw i (with-needs s))
    (λ e. fixed-both u (stage 5 s) s (omega (arith, eqb-false u 4 e)))
stage-needs (suc (suc (suc (suc (suc (suc t)))))) u s l = rested-needs u s

-- What is kept is written as the slot was, if its own bytes are the same: an absent slot's are not written.
abbrev pub SameOwn : Slot → List ℕ → List ℕ → Type 0
SameOwn s p q = absent s ≡ false → take (bytes_of s.kind) q ≡ take (bytes_of s.kind) p

no-pair : (s : Slot) → InRange s → absent s ≡ true → 0 ∷ 0 ∷ [] ≡ s.kind ∷ s.length ∷ []
unfolding absent
no-pair s v a = ap₂ (λ (k l : ℕ). k ∷ l ∷ []) (sym (eqb-true s.kind 0 a)) (sym (length-zero s v a))

share-of-none : (t : ℕ) (s : Slot) (p q : List ℕ) → InRange s → absent s ≡ true → share_of t absent_slot q ≡ share_of t s p
unfolding share_of field_at fields setup_field memory_field state_field sensor_field pending_field older_field absent sensing older absent_slot fresh_slot
share-of-none zero s p q v a = no-pair s v a
share-of-none (suc zero) s p q v a = rw a
share-of-none (suc (suc zero)) s p q v a = rw a
share-of-none (suc (suc (suc zero))) s p q v a = rw (no-sensing s a)
share-of-none (suc (suc (suc (suc zero)))) s p q v a = rw (no-sensing s a)
share-of-none (suc (suc (suc (suc (suc zero))))) s p q v a = rw (no-older s a)
share-of-none (suc (suc (suc (suc (suc (suc t)))))) s p q v a = no-pair s v a

share-of-some : (t : ℕ) (s : Slot) (p q : List ℕ) → SameOwn s p q
    → share_of t (at_rest s.kind s.length s.half s.counter s.protection s.voltage (kept_sensor s) (kept_older s)) q ≡ share_of t s p
unfolding share_of field_at fields setup_field memory_field state_field state_bytes sensor_field sensor_bytes pending_field older_field older_byte registers_to register_of kept_sensor kept_older absent sensing older fresh_slot at_rest open-fields
share-of-some zero s p q e = refl
share-of-some (suc zero) s p q e = by-test (eqb s.kind 0) (λ a. rw a) (λ a. rw a (e a))
share-of-some (suc (suc zero)) s p q e = refl
share-of-some (suc (suc (suc zero))) s p q e = by-test (eqb s.kind 2) (λ b. rw b) (λ b. rw b)
share-of-some (suc (suc (suc (suc zero)))) s p q e = by-test (eqb s.kind 2) (λ b. rw b) (λ b. rw b)
share-of-some (suc (suc (suc (suc (suc zero))))) s p q e = by-test (eqb s.kind 3) (λ b. rw b) (λ b. rw b)
share-of-some (suc (suc (suc (suc (suc (suc t)))))) s p q e = refl

pub share-rested : (t : ℕ) (s : Slot) (p q : List ℕ) → InRange s → SameOwn s p q → share_of t (rested s) q ≡ share_of t s p
unfolding rested kept_sensor kept_older
share-rested t s p q v e = cond_cases (λ (r : Slot). share_of t r q ≡ share_of t s p) (absent s) (λ a. share-of-none t s p q v a) (λ a. share-of-some t s p q e)

-- and it is in range
pub rested-in-range : (s : Slot) → InRange s → InRange (rested s)
unfolding rested absent_slot fresh_slot at_rest open-fields
rested-in-range s v = cond_cases InRange (absent s)
    (λ a. record { kinds = omega arith; lengths = refl; lefts = omega arith; halves = omega arith; counters = omega arith; places = omega arith; sensors = fresh_kept; pins = fresh-pends 0; olders = λ o. absurd (false≢true o) })
    (λ a. record {
      kinds = v.kinds;
      lengths = v.lengths;
      lefts = omega arith;
      halves = v.halves;
      counters = v.counters;
      places = omega arith;
      sensors = word_kept 0x0000 _ (cond_cases (λ (x : Sensor). sensor_in_range x ≡ true) (sensing s) (λ b. v.sensors) (λ b. fresh_kept));
      pins = word-pends s.kind 0x0000 _ (cond_cases (Pends s.kind) (sensing s) (λ b. v.pins) (λ b. fresh-pends s.kind));
      olders = λ o. (unfold older in rw o (v.olders o));
    })
