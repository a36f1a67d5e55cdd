-- What is compared field by field and share by share is the whole form: a form tallies with slots exactly where it is what a saving of them gives, with the
-- form's own bytes as their memory.
-- Assumes nothing.
use mathlib.Core.Path.{◌≡◌, refl, sym, ◌∙◌, ap, ap₂}
use mathlib.Core.Bool.{Bool, true, cond, ◌&&◌}
use mathlib.Core.List.{List, [], ◌∷◌}
use Prim.Native.Nat.{ℕ, zero, suc, ◌+◌, ◌≤◌, ◌<◌}
use native.Mathlib.Omega.{arith}
use borrow.Author.Tests.{eqb-true, eqb-false}
use lib.Dec.{eqb}
use lib.ListN.{length, get_or, take, drop}
use lib.Seq.{take_at}
use Rattle.proof_lists.specs.Parts.{part}
use Rattle.proof_lists.specs.Same.{same, same-eq, stands, stands-append, stands-none, stands-there, stands-whole}
use Rattle.proof_lists.specs.Tests.{by-test}
use Rattle.rules.specs.declared.Slot.{Slot}
use Rattle.rules.specs.Modelled.{slot_count, slot_bytes, memory_bytes, absent}
use Rattle.rules.specs.Fresh.{absent_slot}
use Rattle.save_rules.specs.Form.{word_of, setup_field, memory_field, state_field, sensor_field, pending_field, older_field, fields, field_count, field_at, share_of, shares, whole_field, is_there, field_bytes, form_to}
use Rattle.save_rules.specs.Reading.{size_in, offset, span, begins, place, memory_row, stored_to}
use Rattle.save_rules.proofs.Places.{fixed-there, span-there, field-there, field-none, length-shares, length-form, share-within, begins-up}
use Rattle.save_rules.proofs.Bytes.{own_bytes, bytes_at, overlaid, length-stored, part-stored, whole_in}
use Rattle.save_restore.specs.Tallied.{share_tallies, shares_tally, head_tallies, field_tallies, fields_tally, tallies}

-- only the share of memory goes by the memory
pub share-any : (t : ℕ) (s : Slot) (p q : List ℕ) → (t ≡ memory_row → ⊥) → share_of t s p ≡ share_of t s q
unfolding share_of field_at fields setup_field state_field sensor_field pending_field older_field
share-any zero s p q h = refl
share-any (suc zero) s p q h = absurd (h refl)
share-any (suc (suc zero)) s p q h = refl
share-any (suc (suc (suc zero))) s p q h = refl
share-any (suc (suc (suc (suc zero)))) s p q h = refl
share-any (suc (suc (suc (suc (suc zero))))) s p q h = refl
share-any (suc (suc (suc (suc (suc (suc t)))))) s p q h = refl

module _ (ss : List Slot) (f m : List ℕ) (sized : length m ≡ memory_bytes) (whole : length f ≡ begins field_count ss) where
  -- the memory that the form has for these slots
  abbrev own : List ℕ
  own = stored_to slot_count f ss m

  own-sized : length own ≡ memory_bytes
  own-sized = length-stored f ss m slot_count ∙ sized

  -- one share: of memory it is what stands there
  memory-tallies : (k : ℕ) → k < slot_count → stands (share_of memory_row (get_or ss k absent_slot) (part slot_bytes k own)) f (place memory_row k ss) ≡ true
  unfolding share_of field_at fields memory_field
  memory-tallies k h = by-test (absent (get_or ss k absent_slot))
      (λ a. rw a (stands-none f (place memory_row k ss)))
      (λ a.
      let w : place memory_row k ss + size_in memory_row (get_or ss k absent_slot) ≤ begins field_count ss = share-within ss memory_row k (omega arith) (fixed-there memory_row ss (omega arith)) h in
      let n : ℕ = own_bytes ss k in
      let s : size_in memory_row (get_or ss k absent_slot) ≡ n = unfold size_in field_at fields memory_field absent in rw a in
      let p : part slot_bytes k own ≡ overlaid f ss m k
      = part-stored f ss m sized slot_count k h (omega arith) (λ j i. whole_in f ss j (omega arith) i) ∙ ap (λ (b : Bool). cond b (part slot_bytes k m) (overlaid f ss m k)) a in
      let q : take n (part slot_bytes k own) ≡ bytes_at f ss k
      = ap (take n) p ∙ take_at (bytes_at f ss k) (drop n (part slot_bytes k m)) n (whole_in f ss k (omega arith) h a) in
      rw a (ap (λ (l : List ℕ). stands l f (place memory_row k ss)) q ∙ stands-there n f (place memory_row k ss) (omega arith)))

  share-tallies : (t k : ℕ) → k < slot_count
      → share_tallies t (get_or ss k absent_slot) f (place t k ss) ≡ stands (share_of t (get_or ss k absent_slot) (part slot_bytes k own)) f (place t k ss)
  unfolding share_tallies
  share-tallies t k h = by-test (eqb t memory_row)
      (λ e. rw e (sym (memory-tallies k h) ∙ ap (λ (u : ℕ). stands (share_of u (get_or ss k absent_slot) (part slot_bytes k own)) f (place u k ss)) (sym (eqb-true t memory_row e))))
      (λ e. rw e (ap (λ (l : List ℕ). stands l f (place t k ss)) (share-any t (get_or ss k absent_slot) [] (part slot_bytes k own) (eqb-false t memory_row e))))

  -- those of a field
  shares-tally : (t k : ℕ) → t < field_count → is_there t ss ≡ true → k ≤ slot_count → shares_tally t k ss f ≡ stands (shares t k ss own) f (begins t ss + 3)
  unfolding shares_tally shares place
  shares-tally t zero h i l = sym (stands-none f (begins t ss + 3))
  shares-tally t (suc k) h i l =
      let n : length (shares t k ss own) ≡ offset t k ss = length-shares ss own own-sized t k (omega arith) in
      let w : place t k ss + size_in t (get_or ss k absent_slot) ≤ begins field_count ss = share-within ss t k h i l in
      let r : begins t ss + 3 + length (shares t k ss own) ≤ length f = omega arith in
      ap₂ ◌&&◌ (shares-tally t k h i (omega arith)) (share-tallies t k l ∙ ap (λ (i : ℕ). stands (share_of t (get_or ss k absent_slot) (part slot_bytes k own)) f (begins t ss + 3 + i)) (sym n))
      ∙ sym (stands-append (shares t k ss own) (share_of t (get_or ss k absent_slot) (part slot_bytes k own)) f (begins t ss + 3) r)

  -- a field
  whole-field : (t : ℕ) → t < field_count → is_there t ss ≡ true → (head_tallies t ss f && shares_tally t slot_count ss f) ≡ stands (whole_field t ss own) f (begins t ss)
  unfolding head_tallies whole_field
  whole-field t h i =
      let n : length (shares t slot_count ss own) ≡ offset t slot_count ss = length-shares ss own own-sized t slot_count (omega arith) in
      let b : begins (suc t) ss ≤ begins field_count ss = begins-up ss (suc t) field_count h in
      let e : begins (suc t) ss ≡ begins t ss + span t ss = unfold begins in refl in
      let s : span t ss ≡ 3 + offset t slot_count ss = span-there t ss i in
      let three : length ((field_at t).tag ∷ word_of (offset t slot_count ss)) ≡ 3 = unfold word_of in refl in
      rw n
      (ap₂ ◌&&◌ {y = stands ((field_at t).tag ∷ word_of (offset t slot_count ss)) f (begins t ss)} refl
      (shares-tally t slot_count h i (omega arith) ∙ ap (λ (i : ℕ). stands (shares t slot_count ss own) f (begins t ss + i)) (sym three))
      ∙ sym (stands-append ((field_at t).tag ∷ word_of (offset t slot_count ss)) (shares t slot_count ss own) f (begins t ss) (omega arith)))

  field-tallies : (t : ℕ) → t < field_count → field_tallies t ss f ≡ stands (field_bytes t ss own) f (begins t ss)
  unfolding field_tallies
  field-tallies t h = by-test (is_there t ss)
      (λ i. rw (i, field-there ss own own-sized t i) (whole-field t h i))
      (λ i. rw (i, field-none ss own own-sized t i) (sym (stands-none f (begins t ss))))

  -- the fields
  fields-tally : (t : ℕ) → t ≤ field_count → fields_tally t ss f ≡ stands (form_to t ss own) f 0
  unfolding fields_tally form_to
  fields-tally zero h = sym (stands-none f 0)
  fields-tally (suc t) h =
      let n : length (form_to t ss own) ≡ begins t ss = length-form ss own own-sized t in
      let b : begins t ss ≤ begins field_count ss = begins-up ss t field_count (omega arith) in
      let z : 0 + length (form_to t ss own) ≡ begins t ss = omega arith in
      ap₂ ◌&&◌ (fields-tally t (omega arith)) (field-tallies t h ∙ ap (stands (field_bytes t ss own) f) (sym z))
      ∙ sym (stands-append (form_to t ss own) (field_bytes t ss own) f 0 (omega arith))

  whole-tallies : fields_tally field_count ss f ≡ same (form_to field_count ss own) f
  whole-tallies =
      fields-tally field_count (omega arith)
      ∙ stands-whole (form_to field_count ss own) f (length-form ss own own-sized field_count ∙ sym whole)

pub tallies-same : (ss : List Slot) (f m : List ℕ) → length m ≡ memory_bytes → tallies ss f ≡ same (form_to field_count ss (stored_to slot_count f ss m)) f
unfolding tallies
tallies-same ss f m l = by-test (eqb (length f) (begins field_count ss))
    (λ e. rw e (whole-tallies ss f m l (eqb-true (length f) (begins field_count ss) e)))
    (λ e. rw e (by-test (same form f)
    (λ q. absurd (eqb-false (length f) (begins field_count ss) e (sym (ap length (same-eq form f q)) ∙ length-form ss (stored_to slot_count f ss m) (length-stored f ss m slot_count ∙ l) field_count)))
    (λ q. sym q)))
  where
    form : List ℕ
    form = form_to field_count ss (stored_to slot_count f ss m)
