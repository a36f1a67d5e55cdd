-- Request P8: "Saved forms gain tag 5 [..] present only when one is 1"; P9: "Saved forms gain tag 6 [..] present only when one is not 0": what that leaves
-- of the forms before. Of a bench in which no change is pending, nothing is permanent and no write-protect pin is on the form is the one that P5 gave, its
-- four fields; a form from before is read as it stands, and neither is then so; and every form begins with P5's. (Of a bench without older slots P9 changes
-- nothing of these.)
-- Assumes nothing.
use Prim.Native.Nat.{ℕ, zero, suc, ◌≤◌, ◌<◌}
use native.Mathlib.Omega.{arith}
use mathlib.Core.Path.{◌≡◌, refl, sym, ◌∙◌, ap, ap₂}
use mathlib.Core.Bool.{Bool, true, false, false≢true, ◌&&◌, and-false}
use mathlib.Core.List.{List, [], ◌∷◌, ◌++◌, append-nil}
use lib.ListN.{length, get_or, take}
use Rattle.proof_lists.specs.Parts.{part}
use Rattle.proof_lists.specs.Tests.{by-test}
use Rattle.rules.specs.declared.Bus.{Bus}
use Rattle.rules.specs.declared.Slot.{Slot}
use Rattle.rules.specs.Modelled.{slot_count, slot_bytes, memory_bytes, absent, sensing, older, bytes_of}
use Rattle.rules.specs.Fresh.{absent_slot}
use Rattle.rules.specs.Refusals.{in_range}
use Rattle.save_rules.specs.Form.{pending_field, older_field, fields, fixed_count, field_at, whole_field, is_there, field_bytes, form_to, form_of}
use Rattle.save_rules.specs.Reading.{bus_in, memory_in, restored, accepted}
use Rattle.save_rules.specs.Rested.{rested_bus, Typed}
use Rattle.save_rules.specs.Open.{open-saved}
use Rattle.save_rules.proofs.AllBytes.{three_bus, three_form, three, older_bus, older_form, five-of-one, six-of-three, olders, older_memory, sample_memory, blank}
use Rattle.save_rules.proofs.Places.{fixed-there, not_there, field-there, field-none}
use Rattle.save_rules.proofs.Back.{ReadsBack, reads-back}
use Rattle.save_rules.proofs.Once.{written-again, length-restored}

-- P5's form: the first t of its four fields, each whole, one behind the other
unfoldable pub earlier_to : ℕ → List Slot → List ℕ → List ℕ
earlier_to zero ss m = []
earlier_to (suc t) ss m = earlier_to t ss m ++ whole_field t ss m

unfoldable pub earlier_form : Bus → List ℕ → List ℕ
earlier_form b m = earlier_to fixed_count b.slots m

-- no slot has a change pending; of none is protection permanent or the pin on, as far as the slot is an older one
abbrev pub NonePending : Bus → Type 0
NonePending b = (k : ℕ) → k < slot_count → (get_or b.slots k absent_slot).sensor.pending ≡ false

abbrev pub NothingOlder : Bus → Type 0
NothingOlder b = (k : ℕ) → k < slot_count → older (get_or b.slots k absent_slot) ≡ true
    → ((get_or b.slots k absent_slot).old.permanent ≡ false) × ((get_or b.slots k absent_slot).old.pin ≡ false)

module _ (ss : List Slot) (m : List ℕ) (sized : length m ≡ memory_bytes) where
  -- P5's fields stand at the front
  front : (t : ℕ) → t ≤ fixed_count → form_to t ss m ≡ earlier_to t ss m
  unfolding form_to earlier_to
  front zero h = refl
  front (suc t) h = ap₂ ◌++◌ (front t (omega arith)) (field-there ss m sized t (fixed-there t ss h))

module _ (b : Bus) (m : List ℕ) (sized : length m ≡ memory_bytes) where
  pub begins-earlier : form_of b m ≡ earlier_form b m ++ field_bytes 4 b.slots m ++ field_bytes 5 b.slots m
  unfolding form_of form_to earlier_form
  begins-earlier = ap (λ (f : List ℕ). f ++ field_bytes 4 b.slots m ++ field_bytes 5 b.slots m) (front b.slots m sized fixed_count (omega arith))

  no-five : NonePending b → is_there 4 b.slots ≡ false
  unfolding field_at fields pending_field
  no-five h = not_there 4 b.slots (λ k l. ap (sensing (get_or b.slots k absent_slot) &&◌) (h k l) ∙ and-false (sensing (get_or b.slots k absent_slot)))

  no_six : NothingOlder b → is_there 5 b.slots ≡ false
  unfolding field_at fields older_field
  no_six h = not_there 5 b.slots (λ k l. by-test (older (get_or b.slots k absent_slot)) (λ o. rw (o, (h k l o).0, (h k l o).1)) (λ o. rw o))

  -- Behind P5's stand field 5 and field 6, each if it is there;
  behind : (f g : List ℕ) → field_bytes 4 b.slots m ≡ f → field_bytes 5 b.slots m ≡ g → form_of b m ≡ earlier_form b m ++ f ++ g
  behind f g x y = begins-earlier ∙ ap₂ (λ (p q : List ℕ). earlier_form b m ++ p ++ q) x y

  -- so where a change is pending, field 5; where an older slot is permanently protected, or has its pin on, field 6; or both;
  pub with-five : is_there 4 b.slots ≡ true → is_there 5 b.slots ≡ false → form_of b m ≡ earlier_form b m ++ whole_field 4 b.slots m
  with-five h i = behind _ _ (field-there b.slots m sized 4 h) (field-none b.slots m sized 5 i) ∙ append-nil _

  pub with-six : is_there 4 b.slots ≡ false → is_there 5 b.slots ≡ true → form_of b m ≡ earlier_form b m ++ whole_field 5 b.slots m
  with-six h i =
      behind _ _ (field-none b.slots m sized 4 h) (field-there b.slots m sized 5 i)
      ∙ ap (λ (f : List ℕ). f ++ whole_field 5 b.slots m) (append-nil (earlier_form b m))

  pub with-both : is_there 4 b.slots ≡ true → is_there 5 b.slots ≡ true
      → form_of b m ≡ earlier_form b m ++ whole_field 4 b.slots m ++ whole_field 5 b.slots m
  with-both h i = behind _ _ (field-there b.slots m sized 4 h) (field-there b.slots m sized 5 i)

  -- and where none of these is so, the form is P5's.
  pub same-as-before : NonePending b → NothingOlder b → form_of b m ≡ earlier_form b m
  same-as-before h o =
      behind _ _ (field-none b.slots m sized 4 (no-five h)) (field-none b.slots m sized 5 (no_six o)) ∙ append-nil _ ∙ append-nil (earlier_form b m)

  -- Of a bench without older slots the form is P8's, its first five fields.
  pub same-without-older : ((k : ℕ) → k < slot_count → older (get_or b.slots k absent_slot) ≡ false) → form_of b m ≡ form_to 5 b.slots m
  unfolding form_of form_to
  same-without-older h =
      ap (λ (f : List ℕ). form_to 5 b.slots m ++ f) (field-none b.slots m sized 5 (no_six (λ k l o. absurd (false≢true (sym (h k l) ∙ o)))))
      ∙ append-nil (form_to 5 b.slots m)

  -- A form from before, of a bench in range (in which then nothing was pending, permanent or on), is accepted, whatever memory it is read into, and
  -- restores to what was saved, the rest as fresh.
  pub record AsBefore (n : List ℕ) : Type 0 where
    pub accepts : accepted (earlier_form b m) n ≡ true
    pub bus : bus_in (earlier_form b m) ≡ rested_bus b
    pub own : (k : ℕ) → k < slot_count → absent (get_or b.slots k absent_slot) ≡ false
        → take (bytes_of (get_or b.slots k absent_slot).kind) (part slot_bytes k (memory_in (earlier_form b m) n))
        ≡ take (bytes_of (get_or b.slots k absent_slot).kind) (part slot_bytes k m)
    pub untouched : (k : ℕ) → k < slot_count → absent (get_or b.slots k absent_slot) ≡ true → part slot_bytes k (memory_in (earlier_form b m) n) ≡ part slot_bytes k n

  pub read-as-before : (n : List ℕ) → Typed b → in_range b ≡ true → NonePending b → NothingOlder b → length n ≡ memory_bytes → AsBefore n
  read-as-before n t r h o l =
      let e : form_of b m ≡ earlier_form b m = same-as-before h o in
      let back : ReadsBack b m n = reads-back b m n t r sized l in
      record {
        accepts = ap (λ (f : List ℕ). accepted f n) (sym e) ∙ back.accepts;
        bus = ap bus_in (sym e) ∙ back.bus;
        own = λ k i a. ap (λ (f : List ℕ). take (bytes_of (get_or b.slots k absent_slot).kind) (part slot_bytes k (memory_in f n))) (sym e) ∙ back.own k i a;
        untouched = λ k i a. ap (λ (f : List ℕ). part slot_bytes k (memory_in f n)) (sym e) ∙ back.untouched k i a;
      }

-- And every form that is accepted and restores to a bench in which nothing is pending, permanent or on is one from before.
pub was-before : (f n : List ℕ) → accepted f n ≡ true → length n ≡ memory_bytes → NonePending (bus_in f) → NothingOlder (bus_in f)
    → earlier_form (bus_in f) (memory_in f n) ≡ f
was-before f n a l h o = sym (same-as-before (bus_in f) (memory_in f n) (length-restored f n a l) h o) ∙ (unfold restored in written-again f n a)

-- So the form of a bench with three older slots and a sensor, with fields 5 and 6, is accepted;
older-typed : (on p w : Bool) → Typed (older_bus on p w)
unfolding open-saved
older-typed on p w = record { slots = refl; blocks = (refl, (refl, (refl, (refl, (refl, (refl, (refl, (refl, tt)))))))) }

pub both-accepted : accepted (older_form 1 ++ five-of-one ++ six-of-three) blank ≡ true
both-accepted =
    ap (λ (f : List ℕ). accepted f blank) (sym olders.both)
    ∙ (reads-back (older_bus true true true) older_memory blank (older-typed true true true) (unfold open-saved in refl) refl refl).accepts

-- and the two forms of a bench with three sensors, with nothing pending and with two changes pending, are accepted. (By the theorem: to compute it takes long.)
three-typed : (p q r : Bool) → Typed (three_bus p q r)
unfolding open-saved
three-typed p q r = record { slots = refl; blocks = (refl, (refl, (refl, (refl, (refl, (refl, (refl, (refl, tt)))))))) }

pub three-before : accepted three_form blank ≡ true
three-before =
    ap (λ (f : List ℕ). accepted f blank) (sym three.before)
    ∙ (reads-back (three_bus false false false) sample_memory blank (three-typed false false false) (unfold open-saved in refl) refl refl).accepts

pub three-accepted : accepted (three_form ++ 0x05 ∷ 0x00 ∷ 0x03 ∷ 1 ∷ 0 ∷ 1 ∷ []) blank ≡ true
three-accepted =
    ap (λ (f : List ℕ). accepted f blank) (sym three.form)
    ∙ (reads-back (three_bus true false true) sample_memory blank (three-typed true false true) (unfold open-saved in refl) refl refl).accepts
