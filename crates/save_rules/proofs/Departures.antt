-- Request P5: "Reading refuses a wrong memory length with 1, then every departure or number out of range with 10, and leaves state and memory." What an
-- accepted form has at each place, so that a form which has anything else there is refused; and that nothing may stand behind it or be missing, but for
-- P8's field 5 and P9's field 6, without which it is another bench's.
-- Assumes nothing.
use Rattle.rules.proofs.Run.Cases.{older-present}
use Prim.Native.Nat.{ℕ, zero, suc, ◌+◌, ◌*◌, ◌/◌, ◌%◌, ◌^◌, ◌≤◌, ◌<◌}
use native.Mathlib.Nat.{add-zero, add_assoc}
use native.Mathlib.Omega.{arith}
use mathlib.Core.Logic.{◌⊎◌, inl, inr, ⊎_elim}
use mathlib.Core.Path.{◌≡◌, refl, sym, ◌∙◌, ap, ap₂}
use mathlib.Core.Bool.{Bool, true, false, false≢true, not, cond, ◌||◌}
use mathlib.Core.List.{List, [], ◌∷◌, ◌++◌, append_assoc}
use lib.Dec.{eqb, ltb}
use lib.ListN.{length, get_or, drop, length-append, drop_of_length-le, get_or-append}
use lib.Seq.{drop-append_seam}
use borrow.Author.Tests.{eqb-true, eqb-false, eq-eqb, ne_eqb, leb-true, ltb-true, ltb-false}
use Rattle.proof_lists.specs.Each.{list_all-at, every-at}
use Rattle.proof_lists.specs.Parts.{part}
use Rattle.proof_lists.specs.Tests.{by-test, and_left, and_right, both, or_left_false, or_right_false}
use Rattle.rules.specs.declared.Answer.TheVariants as answer
use Rattle.rules.specs.declared.Bus.{Bus}
use Rattle.rules.specs.declared.Refusal.TheVariants.{MemoryLength, WrongForm}
use Rattle.rules.specs.declared.Sensor.{Sensor}
use Rattle.rules.specs.declared.Slot.{Slot}
use Rattle.rules.specs.Modelled.{slot_count, slot_bytes, memory_bytes, absent, sensing, older}
use Rattle.rules.specs.Events.{refusal_number, value_of}
use Rattle.rules.specs.Fresh.{absent_slot}
use Rattle.rules.specs.Pin.{can_pend}
use Rattle.rules.specs.Sensor.{configuration_bits, register_of}
use Rattle.rules.specs.Refusals.{good_length, wrong_length, kept_in, sensor_in_range, slot_in_range, in_range}
use Rattle.rules.proofs.Range.Kept.{InRange, facts}
use Rattle.rules.proofs.Range.Olders.{Alone}
use Rattle.save_rules.specs.Form.{word_of, word_at, bits_of, setup_field, state_bytes, state_field, registers_to, sensor_bytes, sensor_field, pending_field, older_byte, older_field, fields, field_count, fixed_count, field_at, share_of, whole_field, is_there, field_bytes, form_to, form_of}
use Rattle.save_rules.specs.Reading.{size_in, offset, span, begins, place, tagged, bus_in, memory_in, restored, accepted, restore_of}
use Rattle.save_rules.proofs.Bits.{bit-small, bits_small, only-first, first_bit, not-kept}
use Rattle.save_rules.proofs.Places.{tags, Asks, who-asks, none-asks, span-there, span_none, fixed-there, begins-up, field-there, length-form, high-at, low-at, tagged-there, share-at, share-within, offset-most, same-tagged, same_place, begins-by-kinds}
use Rattle.save_rules.proofs.Stages.{resolution-small, timeout-small, length-zero, word_back}
use Rattle.save_rules.proofs.Before.{NonePending, NothingOlder}
use Rattle.save_rules.proofs.Once.{typed-read, accepted-in-range, written-again, length-restored, accepted-length}

-- A wrong memory length is refused with 1, and every other form that is not accepted with 10; both leave state and memory.
pub refused-memory : (c : Bus) (n f : List ℕ) → (length n ≡ memory_bytes → ⊥) → restore_of c n f ≡ (record { bus = c; answer = answer.Refused MemoryLength }, n)
unfolding restore_of wrong_length
refused-memory c n f h = rw (ne_eqb (length n) memory_bytes h)

pub refused-form : (c : Bus) (n f : List ℕ) → length n ≡ memory_bytes → (accepted f n ≡ true → ⊥) → restore_of c n f ≡ (record { bus = c; answer = answer.Refused WrongForm }, n)
unfolding restore_of wrong_length
refused-form c n f l h = by-test (accepted f n) (λ e. absurd (h e)) (λ e. rw (eq-eqb (length n) memory_bytes l, e))

-- the number that is answered: 1, then 10; and 0 where the form is read
pub reading-number : (c : Bus) (n f : List ℕ) → value_of (restore_of c n f).0.answer ≡ cond (wrong_length n) 1 (cond (not (accepted f n)) 10 0)
unfolding restore_of value_of refusal_number
reading-number c n f = by-test (wrong_length n) (λ e. rw e) (λ e. by-test (accepted f n) (λ a. rw (e, a)) (λ a. rw (e, a)))

-- slot k as it is restored, and where its share of the field in row t stands
abbrev pub slot_in : List ℕ → ℕ → Slot
slot_in f k = get_or (bus_in f).slots k absent_slot

abbrev pub place_in : List ℕ → ℕ → ℕ → ℕ
place_in f t k = place t k (bus_in f).slots

-- how many of slots 0 to k - 1 have a sensor, or are older ones
unfoldable pub count_to : (Slot → Bool) → ℕ → List Slot → ℕ
count_to is zero ss = 0
count_to is (suc k) ss = count_to is k ss + cond (is (get_or ss k absent_slot)) 1 0

-- a form has field 5: its tag stands behind field 4; and field 6: its tag stands behind these
abbrev pub HasFive : List ℕ → Type 0
HasFive f = get_or f (begins 4 (bus_in f).slots) 0 ≡ 5

abbrev pub HasSix : List ℕ → Type 0
HasSix f = get_or f (begins 5 (bus_in f).slots) 0 ≡ 6

-- one of the bytes of field 5 is 1
pub record OneIs (f : List ℕ) : Type 0 where
  pub slot : ℕ
  pub below : slot < slot_count
  pub sensor : sensing (slot_in f slot) ≡ true
  pub one : get_or f (place_in f 4 slot) 0 ≡ 1

-- one of the bytes of field 6 is not 0
pub record OneIsNot (f : List ℕ) : Type 0 where
  pub slot : ℕ
  pub below : slot < slot_count
  pub old : older (slot_in f slot) ≡ true
  pub other : get_or f (place_in f 5 slot) 0 ≡ 0 → ⊥

-- What an accepted form has at its places.
pub record Conforms (f : List ℕ) : Type 0 where
  -- "Tags in ascending order, each once": where a field begins, its tag stands exactly if it is there; and P5's four are
  pub tag : (t : ℕ) → t < field_count → eqb (get_or f (begins t (bus_in f).slots) 0) (t + 1) ≡ is_there t (bus_in f).slots
  pub first : (t : ℕ) → t < fixed_count → get_or f (begins t (bus_in f).slots) 0 ≡ t + 1
  -- and behind each the length of what follows, with the high byte first; and no byte more or less than these
  pub high : (t : ℕ) → t < field_count → is_there t (bus_in f).slots ≡ true → get_or f (begins t (bus_in f).slots + 1) 0 ≡ offset t slot_count (bus_in f).slots / 256
  pub low : (t : ℕ) → t < field_count → is_there t (bus_in f).slots ≡ true → get_or f (begins t (bus_in f).slots + 2) 0 ≡ offset t slot_count (bus_in f).slots % 256
  pub whole : length f ≡ begins field_count (bus_in f).slots
  -- the setup pairs: kinds 0 to 3, "an absent slot's length as 0", a present one's 1 to 5
  pub kind : (k : ℕ) → k < slot_count → get_or f (place_in f 0 k) 0 ≤ 3
  pub no_length : (k : ℕ) → k < slot_count → absent (slot_in f k) ≡ true → get_or f (place_in f 0 k + 1) 0 ≡ 0
  pub some-length : (k : ℕ) → k < slot_count → absent (slot_in f k) ≡ false → good_length (get_or f (place_in f 0 k + 1) 0) ≡ true
  -- of each present slot: protection in four bits, half 0 or 1, a counter of one byte, high voltage 0 or 1
  pub protection : (k : ℕ) → k < slot_count → absent (slot_in f k) ≡ false → get_or f (place_in f 2 k) 0 ≤ 15
  pub half : (k : ℕ) → k < slot_count → absent (slot_in f k) ≡ false → get_or f (place_in f 2 k + 1) 0 ≤ 1
  pub counter : (k : ℕ) → k < slot_count → absent (slot_in f k) ≡ false → get_or f (place_in f 2 k + 2) 0 ≤ 255
  pub voltage : (k : ℕ) → k < slot_count → absent (slot_in f k) ≡ false → get_or f (place_in f 2 k + 3) 0 ≤ 1
  -- P9, of each older slot: "half always 0"; "Protection is bit 0 alone"
  pub older-half : (k : ℕ) → k < slot_count → older (slot_in f k) ≡ true → get_or f (place_in f 2 k + 1) 0 ≡ 0
  pub older-protection : (k : ℕ) → k < slot_count → older (slot_in f k) ≡ true → get_or f (place_in f 2 k) 0 ≤ 1
  -- of each sensor: the pointer, and registers 08h and 09h, whose high bytes are 0; "bit 4 reads whether the pin is asserted (saved as 0)", and bit 5 is 0
  pub pointer : (k : ℕ) → k < slot_count → sensing (slot_in f k) ≡ true → get_or f (place_in f 3 k) 0 ≤ 9
  pub pin-bits : (k : ℕ) → k < slot_count → sensing (slot_in f k) ≡ true → get_or f (place_in f 3 k + 2) 0 / 16 % 4 ≡ 0
  pub resolution-high : (k : ℕ) → k < slot_count → sensing (slot_in f k) ≡ true → get_or f (place_in f 3 k + 11) 0 ≡ 0
  pub timeout-high : (k : ℕ) → k < slot_count → sensing (slot_in f k) ≡ true → get_or f (place_in f 3 k + 13) 0 ≡ 0
  -- P8: field 5 is there exactly if a change is pending in a slot ("present only when one is 1"): if it is there, one of its bytes is 1; if it is not,
  -- field 6 would begin where it would, and nothing is pending
  pub some-pending : HasFive f → OneIs f
  pub no-five : (HasFive f → ⊥) → begins 5 (bus_in f).slots ≡ begins 4 (bus_in f).slots
  pub none-pending : (HasFive f → ⊥) → NonePending (bus_in f)
  -- "a byte for each sensor": so long it is; each byte is 0 or 1, "1 if a change is pending", and that only where by register 01h one can be
  pub five-high : HasFive f → get_or f (begins 4 (bus_in f).slots + 1) 0 ≡ 0
  pub five-low : HasFive f → get_or f (begins 4 (bus_in f).slots + 2) 0 ≡ count_to sensing slot_count (bus_in f).slots
  pub pending : HasFive f → (k : ℕ) → k < slot_count → sensing (slot_in f k) ≡ true → get_or f (place_in f 4 k) 0 ≡ cond (slot_in f k).sensor.pending 1 0
  pub can-pend : HasFive f → (k : ℕ) → k < slot_count → sensing (slot_in f k) ≡ true → get_or f (place_in f 4 k) 0 ≡ 1
      → can_pend (word_at f (place_in f 3 k + 1)) ≡ true
  -- P9: field 6 is there exactly if protection is permanent in an older slot or the pin of one is on ("present only when one is not 0"): if it is there, one
  -- of its bytes is not 0; if it is not, the form ends where it would begin
  pub some-older : HasSix f → OneIsNot f
  pub six-ends : (HasSix f → ⊥) → length f ≡ begins 5 (bus_in f).slots
  pub none-older : (HasSix f → ⊥) → NothingOlder (bus_in f)
  -- "a byte for each such slot": so long it is; each byte is "bit 0 permanent, bit 1 pin", so at most 3, and bit 0 only where bit 0 of protection is set
  pub six_high : HasSix f → get_or f (begins 5 (bus_in f).slots + 1) 0 ≡ 0
  pub six_low : HasSix f → get_or f (begins 5 (bus_in f).slots + 2) 0 ≡ count_to older slot_count (bus_in f).slots
  pub older-bits : HasSix f → (k : ℕ) → k < slot_count → older (slot_in f k) ≡ true
      → get_or f (place_in f 5 k) 0 ≡ cond (slot_in f k).old.permanent 1 0 + 2 * cond (slot_in f k).old.pin 1 0
  pub set-if-permanent : HasSix f → (k : ℕ) → k < slot_count → older (slot_in f k) ≡ true → get_or f (place_in f 5 k) 0 % 2 ≡ 1
      → get_or f (place_in f 2 k) 0 ≡ 1
  -- and every number of row 6 is in its range
  pub ranged : in_range (bus_in f) ≡ true

good-length : (s : Slot) → InRange s → absent s ≡ false → good_length s.length ≡ true
unfolding absent
good-length s v a = rw a at v.lengths

pointer-small : (x : Sensor) → sensor_in_range x ≡ true → x.pointer ≤ 9
unfolding sensor_in_range
pointer-small x e = leb-true x.pointer 9 (search (and_left, and_right) depth 9)

configuration-kept : (x : Sensor) → sensor_in_range x ≡ true → kept_in configuration_bits x.configuration ≡ true
unfolding sensor_in_range
configuration-kept x e = search (and_left, and_right) depth 9

two-bits : (w : ℕ) → w % 2 ≡ 0 → w / 2 % 2 ≡ 0 → w % 4 ≡ 0
two-bits w a b = let q : w ≡ 2 * (w / 2) = omega arith in let r : w / 2 ≡ 2 * (w / 2 / 2) = omega arith in let s : w ≡ 4 * (w / 2 / 2) = omega arith in rw s (omega arith)

no-pin-bits : (v : ℕ) → kept_in configuration_bits v ≡ true → v % 256 / 16 % 4 ≡ 0
no-pin-bits v e =
    let four : v / 16 % 2 ≡ 0 = not-kept configuration_bits v 4 e refl in
    let five : v / 32 % 2 ≡ 0 = not-kept configuration_bits v 5 e refl in
    let half : v / 32 ≡ v / 16 / 2 = omega arith in
    let low : v % 256 / 16 ≡ v / 16 % 16 = omega arith in
    rw low (omega (arith, two-bits (v / 16) four (rw half at five)))

one_on : (v : Bool) → ◌≡◌ {A = ℕ} (cond v 1 0) 1 → v ≡ true
one_on true e = refl
one_on false e = absurd (omega arith)

-- field 5 has a byte for each sensor, and field 6 one for each older slot: eight at most
counts : (t : ℕ) (is : Slot → Bool) → ((s : Slot) → size_in t s ≡ cond (is s) 1 0) → (k : ℕ) (ss : List Slot) → offset t k ss ≡ count_to is k ss
unfolding offset count_to
counts t is e zero ss = refl
counts t is e (suc k) ss = ap₂ ◌+◌ (counts t is e k ss) (e (get_or ss k absent_slot))

sensors-offset : (ss : List Slot) → offset 4 slot_count ss ≡ count_to sensing slot_count ss
sensors-offset = counts 4 sensing (λ s. unfold size_in field_at fields pending_field sensing in refl) slot_count

olders-offset : (ss : List Slot) → offset 5 slot_count ss ≡ count_to older slot_count ss
olders-offset = counts 5 older (λ s. unfold size_in field_at fields older_field older in refl) slot_count

-- the two bits of a byte of field 6
bits_none : (p q : Bool) → (p || q) ≡ true → ◌≡◌ {A = ℕ} (cond p 1 0 + 2 * cond q 1 0) 0 → ⊥
bits_none true q e z = omega arith
bits_none false true e z = omega arith
bits_none false false e z = false≢true e

low_bit : (p q : Bool) → (cond p 1 0 + 2 * cond q 1 0) % 2 ≡ 1 → p ≡ true
low_bit true q e = refl
low_bit false true e = absurd (omega arith)
low_bit false false e = absurd (omega arith)

no-high-byte : (v : ℕ) → v ≤ 3 → v / 256 ≡ 0
no-high-byte v h = omega arith

module _ (f n : List ℕ) (accepts : accepted f n ≡ true) (sized : length n ≡ memory_bytes) where
  abbrev slots : List Slot
  slots = (bus_in f).slots

  abbrev bytes : List ℕ
  bytes = memory_in f n

  long : length bytes ≡ memory_bytes
  long = length-restored f n accepts sized

  again : form_to field_count (bus_in f).slots (memory_in f n) ≡ f
  again = unfold restored form_of in written-again f n accepts

  in-form : (i : ℕ) → get_or f i 0 ≡ get_or (form_to field_count slots bytes) i 0
  in-form i = sym (ap (λ (x : List ℕ). get_or x i 0) again)

  -- the tag of a field that is there, and of no other
  tagged_in : (t : ℕ) → t < field_count → tagged t f slots ≡ is_there t slots
  tagged_in t h = sym (ap (λ (x : List ℕ). tagged t x slots) again) ∙ tagged-there slots bytes long t h

  tag_in : (t : ℕ) → t < field_count → eqb (get_or f (begins t slots) 0) (t + 1) ≡ is_there t slots
  tag_in t h = ap (eqb (get_or f (begins t slots) 0)) (sym (tags t h)) ∙ (unfold tagged in tagged_in t h)

  there-in : (t : ℕ) → t < field_count → get_or f (begins t slots) 0 ≡ t + 1 → is_there t slots ≡ true
  there-in t h e = sym (tag_in t h) ∙ eq-eqb _ (t + 1) e

  none_in : (t : ℕ) → t < field_count → (get_or f (begins t slots) 0 ≡ t + 1 → ⊥) → is_there t slots ≡ false
  none_in t h e = sym (tag_in t h) ∙ ne_eqb _ (t + 1) e

  -- byte j of slot k's share in f
  byte-in : (t k j : ℕ) → t < field_count → is_there t slots ≡ true → k < slot_count → j < size_in t (slot_in f k)
      → get_or f (place_in f t k + j) 0 ≡ get_or (share_of t (slot_in f k) (part slot_bytes k (memory_in f n))) j 0
  byte-in t k j h e l g = in-form (place_in f t k + j) ∙ share-at slots bytes long t k j h e l g

  ranges : (k : ℕ) → k < slot_count → InRange (slot_in f k)
  ranges k h = facts (slot_in f k) (list_all-at slot_in_range k (bus_in f).slots absent_slot (rw (typed-read f).slots h) (unfold in_range in accepted-in-range f n accepts))

  -- the first byte of a share
  first-in : (t k : ℕ) → t < field_count → is_there t slots ≡ true → k < slot_count → 0 < size_in t (slot_in f k)
      → get_or f (place_in f t k) 0 ≡ get_or (share_of t (slot_in f k) (part slot_bytes k (memory_in f n))) 0 0
  first-in t k h e l g = rw add-zero at (byte-in t k 0 h e l g)

  four-blocks : (k : ℕ) → k < slot_count → length (slot_in f k).protection ≡ 4
  four-blocks k h = every-at (λ (s : Slot). length s.protection ≡ 4) k slots absent_slot (rw (typed-read f).slots h) (typed-read f).blocks

  kind-in : (k : ℕ) → k < slot_count → get_or f (place_in f 0 k) 0 ≡ (slot_in f k).kind
  unfolding size_in share_of field_at fields setup_field
  kind-in k h = first-in 0 k (omega arith) (fixed-there 0 slots (omega arith)) h (omega arith)

  length-in : (k : ℕ) → k < slot_count → get_or f (place_in f 0 k + 1) 0 ≡ (slot_in f k).length
  unfolding size_in share_of field_at fields setup_field
  length-in k h = byte-in 0 k 1 (omega arith) (fixed-there 0 slots (omega arith)) h (omega arith)

  share_in : (t k size : ℕ) (own : List ℕ) → t < field_count → is_there t slots ≡ true → k < slot_count → size_in t (slot_in f k) ≡ size
      → share_of t (slot_in f k) (part slot_bytes k bytes) ≡ own → (j : ℕ) → j < size → get_or f (place_in f t k + j) 0 ≡ get_or own j 0
  share_in t k size own h i l e o j g = byte-in t k j h i l (rw e g) ∙ ap (λ (x : List ℕ). get_or x j 0) o

  state-in : (k : ℕ) → k < slot_count → absent (slot_in f k) ≡ false → (j : ℕ) → j < 4 → get_or f (place_in f 2 k + j) 0 ≡ get_or (state_bytes (slot_in f k)) j 0
  unfolding size_in share_of field_at fields state_field absent
  state-in k h a = share_in 2 k 4 (state_bytes (slot_in f k)) (omega arith) (fixed-there 2 slots (omega arith)) h (rw a) (rw a)

  sensor-in : (k : ℕ) → k < slot_count → sensing (slot_in f k) ≡ true
      → (j : ℕ) → j < 15 → get_or f (place_in f 3 k + j) 0 ≡ get_or (sensor_bytes (slot_in f k).sensor) j 0
  unfolding size_in share_of field_at fields sensor_field sensing
  sensor-in k h a = share_in 3 k 15 (sensor_bytes (slot_in f k).sensor) (omega arith) (fixed-there 3 slots (omega arith)) h (rw a) (rw a)

  configuration-in : (k : ℕ) → k < slot_count → sensing (slot_in f k) ≡ true → word_at f (place_in f 3 k + 1) ≡ (slot_in f k).sensor.configuration
  unfolding sensor_bytes registers_to word_of register_of
  configuration-in k h a =
      word_back f (place_in f 3 k + 1) (slot_in f k).sensor.configuration (sensor-in k h a 1 (omega arith))
      (ap (λ (i : ℕ). get_or f i 0) (add_assoc (place_in f 3 k) 1 1) ∙ sensor-in k h a 2 (omega arith))

  pending-in : is_there 4 slots ≡ true → (k : ℕ) → k < slot_count → sensing (slot_in f k) ≡ true → get_or f (place_in f 4 k) 0 ≡ cond (slot_in f k).sensor.pending 1 0
  unfolding size_in share_of field_at fields pending_field sensing
  pending-in i k h a = rw add-zero at (share_in 4 k 1 (cond (slot_in f k).sensor.pending 1 0 ∷ []) (omega arith) i h (rw a) (rw a) 0 (omega arith))

  -- field 5 is there for a slot in which a change is pending; and where it is not, none is in any
  one_in : is_there 4 slots ≡ true → OneIs f
  unfolding field_at fields pending_field
  one_in i =
      let a : Asks 4 slots slot_count = who-asks 4 slots i in
      let x : sensing (slot_in f a.slot) ≡ true = and_left (sensing (slot_in f a.slot)) (slot_in f a.slot).sensor.pending a.needs in
      let y : (slot_in f a.slot).sensor.pending ≡ true = and_right (sensing (slot_in f a.slot)) (slot_in f a.slot).sensor.pending a.needs in
      record { slot = a.slot; below = a.below; sensor = x; one = pending-in i a.slot a.below x ∙ rw y }

  none-pends : is_there 4 slots ≡ false → NonePending (bus_in f)
  unfolding field_at fields pending_field sensing
  none-pends i k h = by-test (slot_in f k).sensor.pending
      (λ p. absurd (false≢true (sym (none-asks 4 slots i k h) ∙ both _ _ ((ranges k h).pins.here p) p)))
      (λ p. p)

  older-in : is_there 5 slots ≡ true → (k : ℕ) → k < slot_count → older (slot_in f k) ≡ true
      → get_or f (place_in f 5 k) 0 ≡ cond (slot_in f k).old.permanent 1 0 + 2 * cond (slot_in f k).old.pin 1 0
  unfolding size_in share_of field_at fields older_field older_byte bits_of older
  older-in i k h a = rw add-zero at (share_in 5 k 1 (older_byte (slot_in f k).old ∷ []) (omega arith) i h (rw a) (rw a) 0 (omega arith)) ∙ omega arith

  -- field 6 is there for an older slot with one of the two; and where it is not, none has
  other-in : is_there 5 slots ≡ true → OneIsNot f
  unfolding field_at fields older_field
  other-in i =
      let a : Asks 5 slots slot_count = who-asks 5 slots i in
      let s = slot_in f a.slot in
      let x : older s ≡ true = and_left (older s) (s.old.permanent || s.old.pin) a.needs in
      let y : (s.old.permanent || s.old.pin) ≡ true = and_right (older s) (s.old.permanent || s.old.pin) a.needs in
      record {
        slot = a.slot;
        below = a.below;
        old = x;
        other = λ z. bits_none s.old.permanent s.old.pin y (sym (older-in i a.slot a.below x) ∙ z);
      }

  none-older-in : is_there 5 slots ≡ false → NothingOlder (bus_in f)
  unfolding field_at fields older_field
  none-older-in i k h o =
      let none : ((slot_in f k).old.permanent || (slot_in f k).old.pin) ≡ false = rw o at (none-asks 5 slots i k h) in
      (or_left_false (slot_in f k).old.permanent (slot_in f k).old.pin none, or_right_false (slot_in f k).old.permanent (slot_in f k).old.pin none)

  -- an older slot's half, and its protection, in a byte of which only bit 0 can be set
  alone : (k : ℕ) → k < slot_count → older (slot_in f k) ≡ true → Alone (slot_in f k).half (slot_in f k).protection (slot_in f k).old.permanent
  unfolding older
  alone k h o = (ranges k h).olders o

  one_bit : (k : ℕ) → k < slot_count → older (slot_in f k) ≡ true → get_or f (place_in f 2 k) 0 ≡ cond (get_or (slot_in f k).protection 0 false) 1 0
  unfolding state_bytes
  one_bit k h o =
      let v = alone k h o in
      rw add-zero at (state-in k h (older-present (slot_in f k) o) 0 (omega arith))
      ∙ ap bits_of (only-first (slot_in f k).protection (four-blocks k h) v.no_one v.no-two v.no-three)
      ∙ first_bit (get_or (slot_in f k).protection 0 false)

  four-bits : (k : ℕ) → k < slot_count → bits_of (slot_in f k).protection ≤ 15
  four-bits k h =
      let b : bits_of (slot_in f k).protection < 2 ^ 4 = rw (four-blocks k h) at (bits_small (slot_in f k).protection) in
      omega arith

  few : (n : ℕ) → n ≤ 8 → (n / 256 ≡ 0) × (n % 256 ≡ n)
  few n h = (omega arith, omega arith)

  few-five : (offset 4 slot_count slots / 256 ≡ 0) × (offset 4 slot_count slots % 256 ≡ offset 4 slot_count slots)
  few-five = few (offset 4 slot_count slots) (omega (arith, offset-most 4 slot_count slots))

  few-six : (offset 5 slot_count slots / 256 ≡ 0) × (offset 5 slot_count slots % 256 ≡ offset 5 slot_count slots)
  few-six = few (offset 5 slot_count slots) (omega (arith, offset-most 5 slot_count slots))

  -- So each departure that the request names is refused: the bytes of an accepted form are these.
  pub conforms : Conforms f
  unfolding state_bytes sensor_bytes registers_to word_of register_of
  conforms = record {
    tag = tag_in;
    first = λ t h. eqb-true _ (t + 1) (tag_in t (omega arith) ∙ fixed-there t slots h);
    high = λ t h e. in-form (begins t slots + 1) ∙ high-at slots bytes long t h e;
    low = λ t h e. in-form (begins t slots + 2) ∙ low-at slots bytes long t h e;
    whole = accepted-length f n accepts sized;
    kind = λ k h. rw (kind-in k h) (ranges k h).kinds;
    no_length = λ k h a. length-in k h ∙ length-zero (slot_in f k) (ranges k h) a;
    some-length = λ k h a. ap good_length (length-in k h) ∙ good-length (slot_in f k) (ranges k h) a;
    protection = λ k h a. rw (rw add-zero at (state-in k h a 0 (omega arith))) (four-bits k h);
    half = λ k h a. rw (state-in k h a 1 (omega arith)) (ranges k h).halves;
    counter = λ k h a. rw (state-in k h a 2 (omega arith)) (ranges k h).counters;
    voltage = λ k h a. rw (state-in k h a 3 (omega arith)) (bit-small (slot_in f k).voltage);
    older-half = λ k h o. state-in k h (older-present (slot_in f k) o) 1 (omega arith) ∙ (alone k h o).first-half;
    older-protection = λ k h o. rw (one_bit k h o) (bit-small (get_or (slot_in f k).protection 0 false));
    pointer = λ k h a. rw (rw add-zero at (sensor-in k h a 0 (omega arith))) (pointer-small (slot_in f k).sensor (ranges k h).sensors);
    pin-bits = λ k h a. rw (sensor-in k h a 2 (omega arith)) (no-pin-bits _ (configuration-kept (slot_in f k).sensor (ranges k h).sensors));
    resolution-high = λ k h a. sensor-in k h a 11 (omega arith) ∙ no-high-byte _ (resolution-small (slot_in f k).sensor (ranges k h).sensors);
    timeout-high = λ k h a. sensor-in k h a 13 (omega arith) ∙ no-high-byte _ (let e = timeout-small (slot_in f k).sensor (ranges k h).sensors in omega arith);
    some-pending = λ e. one_in (there-in 4 (omega arith) e);
    no-five = λ e. unfold begins in rw (span_none 4 slots (none_in 4 (omega arith) e)) (omega arith);
    none-pending = λ e. none-pends (none_in 4 (omega arith) e);
    five-high = λ e. in-form (begins 4 slots + 1) ∙ high-at slots bytes long 4 (omega arith) (there-in 4 (omega arith) e) ∙ few-five.0;
    five-low = λ e. in-form (begins 4 slots + 2) ∙ low-at slots bytes long 4 (omega arith) (there-in 4 (omega arith) e) ∙ few-five.1 ∙ sensors-offset slots;
    pending = λ e. pending-in (there-in 4 (omega arith) e);
    can-pend = λ e k h a i.
        let p : (slot_in f k).sensor.pending ≡ true = one_on _ (sym (pending-in (there-in 4 (omega arith) e) k h a) ∙ i) in
        ap can_pend (configuration-in k h a) ∙ (ranges k h).pins.can p;
    some-older = λ e. other-in (there-in 5 (omega arith) e);
    six-ends = λ e. accepted-length f n accepts sized ∙ (unfold begins in rw (span_none 5 slots (none_in 5 (omega arith) e)) (omega arith));
    none-older = λ e. none-older-in (none_in 5 (omega arith) e);
    six_high = λ e. in-form (begins 5 slots + 1) ∙ high-at slots bytes long 5 (omega arith) (there-in 5 (omega arith) e) ∙ few-six.0;
    six_low = λ e. in-form (begins 5 slots + 2) ∙ low-at slots bytes long 5 (omega arith) (there-in 5 (omega arith) e) ∙ few-six.1 ∙ olders-offset slots;
    older-bits = λ e. older-in (there-in 5 (omega arith) e);
    set-if-permanent = λ e k h o i.
        let p : (slot_in f k).old.permanent ≡ true = low_bit (slot_in f k).old.permanent (slot_in f k).old.pin (ap (λ (v : ℕ). v % 2) (sym (older-in (there-in 5 (omega arith) e) k h o)) ∙ i) in
        one_bit k h o ∙ rw ((alone k h o).set_if p);
    ranged = accepted-in-range f n accepts;
  }

-- Bytes behind the end, and a form that is cut short. Where one accepted form is the beginning of another, with g behind it, g is nothing, or the shorter
-- one ends where the other has a field that is not in every form: all before it is in both, and the shorter has none from there on.
pub record EndsAt (f g : List ℕ) (row : ℕ) : Type 0 where
  pub later : fixed_count ≤ row
  pub below : row < field_count
  pub has : is_there row (bus_in (f ++ g)).slots ≡ true
  pub lacks : (t : ℕ) → row ≤ t → t < field_count → is_there t (bus_in f).slots ≡ false
  pub ends : length f ≡ begins row (bus_in (f ++ g)).slots

module _ (f g n : List ℕ) (one : accepted f n ≡ true) (other : accepted (f ++ g) n ≡ true) (sized : length n ≡ memory_bytes) where
  abbrev fs : List Slot
  fs = (bus_in f).slots

  abbrev gs : List Slot
  gs = (bus_in (f ++ g)).slots

  length-one : length f ≡ begins field_count (bus_in f).slots
  length-one = accepted-length f n one sized

  same-pair-place : (k : ℕ) → k < slot_count → place_in f 0 k ≡ place_in (f ++ g) 0 k
  same-pair-place k h = same_place fs gs 0 k (omega arith)
      (λ u l j i. let e : u ≡ 0 = omega arith in rw e (unfold size_in field_at fields setup_field in refl))
      (λ u l. absurd (omega arith))

  same_kind : (k : ℕ) → k < slot_count → (slot_in f k).kind ≡ (slot_in (f ++ g) k).kind
  same_kind k h =
      let w : place_in f 0 k + size_in 0 (slot_in f k) ≤ begins field_count fs = share-within fs 0 k (omega arith) (fixed-there 0 fs (omega arith)) h in
      let two : size_in 0 (slot_in f k) ≡ 2 = unfold size_in field_at fields setup_field in refl in
      sym (kind-in f n one sized k h)
      ∙ sym (get_or-append f g 0 (place_in f 0 k) (omega (arith, length-one)))
      ∙ ap (λ (i : ℕ). get_or (f ++ g) i 0) (same-pair-place k h)
      ∙ kind-in (f ++ g) n other sized k h

  -- the fields before row t are in both, or in neither
  abbrev Agree : ℕ → Type 0
  Agree t = (u : ℕ) → u < t → is_there u fs ≡ is_there u gs

  -- then the next field begins at the same place, and if the shorter one has not ended there, it is in both, or in neither
  next-begins : (t : ℕ) → Agree t → begins t fs ≡ begins t gs
  next-begins t a = begins-by-kinds fs gs same_kind t a

  same_tag : (t : ℕ) → begins t fs < length f → tagged t f fs ≡ tagged t (f ++ g) fs
  unfolding tagged
  same_tag t l = ap (λ (b : ℕ). eqb b (field_at t).tag) (sym (get_or-append f g 0 (begins t fs) l))

  next_agree : (t : ℕ) → t < field_count → Agree t → begins t fs < length f → is_there t fs ≡ is_there t gs
  next_agree t h a l =
      sym (tagged_in f n one sized t h)
      ∙ same_tag t l
      ∙ same-tagged fs gs t (f ++ g) (next-begins t a)
      ∙ tagged_in (f ++ g) n other sized t h

  one_more : (t : ℕ) → Agree t → is_there t fs ≡ is_there t gs → Agree (suc t)
  one_more t a e u h = by-test (eqb u t)
      (λ i. let j : u ≡ t = eqb-true u t i in rw j e)
      (λ i. a u (omega (arith, eqb-false u t i)))

  -- a field that is there begins before the end
  within : (t : ℕ) → t < field_count → is_there t fs ≡ true → begins t fs < length f
  within t h e =
      let b : begins (suc t) fs ≤ begins field_count fs = begins-up fs (suc t) field_count h in
      let s : begins (suc t) fs ≡ begins t fs + span t fs = unfold begins in refl in
      omega (arith, span-there t fs e, length-one)

  ends_at : (t : ℕ) → t < field_count → Agree t → is_there t fs ≡ false → is_there t gs ≡ true → EndsAt f g t
  ends_at t h a e i =
      let up : begins t fs ≤ begins field_count fs = begins-up fs t field_count (omega arith) in
      let at : begins t fs ≡ length f = by-test (ltb (begins t fs) (length f))
      (λ l. absurd (false≢true (sym e ∙ next_agree t h a (ltb-true _ _ l) ∙ i)))
      (λ l. omega (arith, ltb-false (begins t fs) (length f) l, length-one)) in
      record {
        later = by-test (ltb t fixed_count) (λ l. absurd (false≢true (sym e ∙ fixed-there t fs (ltb-true t fixed_count l)))) (λ l. ltb-false t fixed_count l);
        below = h;
        has = i;
        lacks = λ u l m. by-test (is_there u fs)
            (λ j. absurd (omega (arith, within u m j, begins-up fs t u l)))
            (λ j. j);
        ends = sym at ∙ next-begins t a;
      }

  pub record Ends : Type 0 where
    pub row : ℕ
    pub there : EndsAt f g row

  -- row by row, as far as they agree
  go_on : (t : ℕ) → t ≤ field_count → Agree t ⊎ Ends
  go_on zero h = inl (λ u l. absurd (omega arith))
  go_on (suc t) h = ⊎_elim
      (λ (a : Agree t). by-test (is_there t fs)
      (λ e. inl (one_more t a (next_agree t h a (within t h e))))
      (λ e. by-test (is_there t gs)
      (λ i. inr (record { row = t; there = ends_at t h a e i }))
      (λ i. inl (one_more t a (e ∙ sym i)))))
      (λ (x : Ends). inr x)
      (go_on t (omega arith))

  pub no-tail : (g ≡ []) ⊎ Ends
  no-tail = ⊎_elim
      (λ (a : Agree field_count).
      let m : length (f ++ g) ≡ begins field_count gs = accepted-length (f ++ g) n other sized in
      let s : length (f ++ g) ≡ length f + length g = length-append f g in
      inl (drop_of_length-le g {i = 0} (omega (arith, next-begins field_count a, length-one))))
      (λ (x : Ends). inr x)
      (go_on field_count (omega arith))

  -- Fields 5 and 6 are the only ones: so what stands behind is field 5 of the longer form, with field 6 behind it if that is there, and in the shorter
  -- nothing is pending; or field 6 alone. And in the shorter nothing is permanent in an older slot, and no pin is on.
  abbrev ms : List ℕ
  ms = memory_in (f ++ g) n

  pub data Tail : Type 0 where
    from-five : g ≡ whole_field 4 (bus_in (f ++ g)).slots (memory_in (f ++ g) n) ++ field_bytes 5 (bus_in (f ++ g)).slots (memory_in (f ++ g) n)
        → NonePending (bus_in f) → NothingOlder (bus_in f) → Tail
    six : g ≡ whole_field 5 (bus_in (f ++ g)).slots (memory_in (f ++ g) n) → NothingOlder (bus_in f) → Tail

  long-again : length ms ≡ memory_bytes
  long-again = length-restored (f ++ g) n other sized

  -- what stands behind the first t fields of the longer form
  behind : (t : ℕ) (b : List ℕ) → length f ≡ begins t gs → form_to field_count gs ms ≡ form_to t gs ms ++ b → g ≡ b
  behind t b e s =
      sym (drop-append_seam f g)
      ∙ ap₂ drop (e ∙ sym (length-form gs ms long-again t)) (sym (again (f ++ g) n other sized) ∙ s)
      ∙ drop-append_seam (form_to t gs ms) b

  tail : (row : ℕ) → EndsAt f g row → Tail
  unfolding form_to
  tail row x = by-test (eqb row 4)
      (λ i.
      let r : row ≡ 4 = eqb-true row 4 i in
      from-five
      (behind 4 _ (x.ends ∙ ap (λ (t : ℕ). begins t gs) r) (append_assoc (form_to 4 gs ms) (field_bytes 4 gs ms) (field_bytes 5 gs ms))
      ∙ ap (λ (b : List ℕ). b ++ field_bytes 5 gs ms) (field-there gs ms long-again 4 (ap (λ (t : ℕ). is_there t gs) (sym r) ∙ x.has)))
      (none-pends f n one sized (x.lacks 4 (omega (arith, r)) (omega arith)))
      (none-older-in f n one sized (x.lacks 5 (omega (arith, r)) (omega arith))))
      (λ i.
      let r : row ≡ 5 = omega (arith, x.later, x.below, eqb-false row 4 i) in
      six
      (behind 5 _ (x.ends ∙ ap (λ (t : ℕ). begins t gs) r) refl
      ∙ field-there gs ms long-again 5 (ap (λ (t : ℕ). is_there t gs) (sym r) ∙ x.has))
      (none-older-in f n one sized (x.lacks 5 (omega (arith, r)) (omega arith))))

  pub tail-is : (g ≡ [] → ⊥) → Tail
  tail-is h = ⊎_elim (λ e. absurd (h e)) (λ (x : Ends). tail x.row x.there) no-tail
