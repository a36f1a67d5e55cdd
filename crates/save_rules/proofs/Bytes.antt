-- What reading does to the memory: a present slot's own bytes, all 512 or of an older slot the first 256, become those at its place in the form; every
-- other byte stays.
-- Assumes nothing.
use Prim.Native.Nat.{ℕ, zero, suc, ◌+◌, ◌*◌, ◌≤◌, ◌<◌}
use native.Mathlib.Omega.{arith}
use mathlib.Core.Path.{◌≡◌, refl, ◌∙◌, ap₂}
use mathlib.Core.Bool.{true, false, cond}
use mathlib.Core.List.{List, ◌++◌}
use lib.Dec.{eqb, ltb}
use lib.ListN.{length, get_or, take, drop, length-take, length-drop}
use lib.Seq.{length-sets}
use borrow.Author.Tests.{eqb-true, eqb-false, ltb-true, ltb-false}
use Rattle.proof_lists.specs.Laid.{part-laid, part-beside, get_d_sets_before, get_d-sets-behind}
use Rattle.proof_lists.specs.Tests.{cond_cases, by-test}
use Rattle.proof_lists.specs.Parts.{part}
use Rattle.rules.specs.declared.Bus.{Bus}
use Rattle.rules.specs.declared.Slot.{Slot}
use Rattle.rules.specs.Modelled.{slot_count, slot_bytes, memory_bytes, absent, bytes_of, older}
use Rattle.rules.specs.Fresh.{absent_slot}
use Rattle.rules.specs.Refusals.{wrong_length}
use Rattle.save_rules.specs.Form.{memory_field, fields, field_count, field_at}
use Rattle.save_rules.specs.Reading.{size_in, begins, place, memory_row, stored_to, memory_in, bus_in, accepted, restore_of}
use Rattle.save_rules.proofs.Places.{bytes_most, fixed-there, share-within}

-- how many bytes of its 512 are slot k's own; and its bytes in the form
abbrev pub own_bytes : List Slot → ℕ → ℕ
own_bytes ss k = bytes_of (get_or ss k absent_slot).kind

abbrev pub bytes_at : List ℕ → List Slot → ℕ → List ℕ
bytes_at f ss k = take (own_bytes ss k) (drop (place memory_row k ss) f)

no_more : (f : List ℕ) (ss : List Slot) (k : ℕ) → length (bytes_at f ss k) ≤ slot_bytes
no_more f ss k = rw length-take (omega (arith, bytes_most (get_or ss k absent_slot).kind))

module _ (f : List ℕ) (ss : List Slot) (m : List ℕ) where
  -- slot k's 512 bytes in m, with its own bytes those of the form
  abbrev pub overlaid : ℕ → List ℕ
  overlaid k = bytes_at f ss k ++ drop (own_bytes ss k) (part slot_bytes k m)

  pub length-stored : (k : ℕ) → length (stored_to k f ss m) ≡ length m
  unfolding stored_to
  length-stored zero = refl
  length-stored (suc k) = cond_cases (λ (l : List ℕ). length l ≡ length m) (absent (get_or ss k absent_slot))
      (λ a. length-stored k) (λ a. length-sets (stored_to k f ss m) (slot_bytes * k) (bytes_at f ss k) ∙ length-stored k)

  module _ (sized : length m ≡ memory_bytes) where
    -- the form has all the bytes of slot k
    abbrev pub Whole : ℕ → Type 0
    Whole k = absent (get_or ss k absent_slot) ≡ false → length (bytes_at f ss k) ≡ own_bytes ss k

    stored-later : (n j : ℕ) → n ≤ j → j < slot_count → part slot_bytes j (stored_to n f ss m) ≡ part slot_bytes j m
    unfolding stored_to
    stored-later zero j h l = refl
    stored-later (suc n) j h l = cond_cases (λ (o : List ℕ). part slot_bytes j o ≡ part slot_bytes j m) (absent (get_or ss n absent_slot))
        (λ a. stored-later n j (omega arith) l)
        (λ a. part-beside slot_bytes n (stored_to n f ss m) (bytes_at f ss n) (no_more f ss n) (rw (length-stored n) (omega arith)) j (λ e. omega arith)
        ∙ stored-later n j (omega arith) l)

    pub part-stored : (n j : ℕ) → j < n → n ≤ slot_count → ((k : ℕ) → k < slot_count → Whole k)
        → part slot_bytes j (stored_to n f ss m) ≡ cond (absent (get_or ss j absent_slot)) (part slot_bytes j m) (overlaid j)
    unfolding stored_to
    part-stored zero j h l w = absurd (omega arith)
    part-stored (suc n) j h l w = by-test (eqb j n)
        (λ e. rw (eqb-true j n e) (by-test (absent (get_or ss n absent_slot))
        (λ a. rw a (stored-later n n (omega arith) l))
        (λ a. rw a
        (part-laid slot_bytes n (stored_to n f ss m) (bytes_at f ss n) (no_more f ss n) (rw (length-stored n) (omega arith))
        ∙ ap₂ (λ (i : ℕ) (p : List ℕ). bytes_at f ss n ++ drop i p) (w n l a) (stored-later n n (omega arith) l)))))
        (λ e.
        let less : j < n = omega (arith, eqb-false j n e) in
        let before = part-stored n j less (omega arith) w in
        cond_cases (λ (o : List ℕ). part slot_bytes j o ≡ cond (absent (get_or ss j absent_slot)) (part slot_bytes j m) (overlaid j)) (absent (get_or ss n absent_slot))
        (λ a. before)
        (λ a. part-beside slot_bytes n (stored_to n f ss m) (bytes_at f ss n) (no_more f ss n) (rw (length-stored n) (omega arith)) j (eqb-false j n e) ∙ before))

-- Whatever form is read into whatever memory: a byte of the 512 that is not its slot's own stays.
module _ (f : List ℕ) (ss : List Slot) (m : List ℕ) (k i : ℕ) (over : own_bytes ss k ≤ i) (below : i < slot_bytes) where
  stored-over : (n : ℕ) → get_or (stored_to n f ss m) (slot_bytes * k + i) 0 ≡ get_or m (slot_bytes * k + i) 0
  unfolding stored_to
  stored-over zero = refl
  stored-over (suc n) = cond_cases (λ (o : List ℕ). get_or o (slot_bytes * k + i) 0 ≡ get_or m (slot_bytes * k + i) 0) (absent (get_or ss n absent_slot))
      (λ a. stored-over n)
      (λ a. (by-test (ltb k n)
      (λ e. get_d_sets_before (stored_to n f ss m) (slot_bytes * n) (bytes_at f ss n) (slot_bytes * k + i) 0 (omega (arith, ltb-true k n e)))
      (λ e. get_d-sets-behind (stored_to n f ss m) (slot_bytes * n) (bytes_at f ss n) (slot_bytes * k + i) 0 (ends n (ltb-false k n e))))
      ∙ stored-over n)
    where
      ends : (n : ℕ) → n ≤ k → slot_bytes * n + length (bytes_at f ss n) ≤ slot_bytes * k + i
      ends n h = by-test (eqb n k)
          (λ e. let j : n ≡ k = eqb-true n k e in rw j (omega (arith, taken k)))
          (λ e. omega (arith, eqb-false n k e, no_more f ss n))
        where
          taken : (j : ℕ) → length (bytes_at f ss j) ≤ own_bytes ss j
          taken j = rw length-take (omega arith)

-- P9: "256 bytes", "blocks 2 and 3 never touched": no restore, of whatever form, touches the upper 256 bytes of a slot that is read as kind 3.
pub upper-untouched : (c : Bus) (n f : List ℕ) (k i : ℕ) → older (get_or (bus_in f).slots k absent_slot) ≡ true → 256 ≤ i → i < slot_bytes
    → get_or (restore_of c n f).1 (slot_bytes * k + i) 0 ≡ get_or n (slot_bytes * k + i) 0
unfolding restore_of memory_in older
upper-untouched c n f k i o h l =
    let own : own_bytes (bus_in f).slots k ≡ 256 = unfold bytes_of in rw o in
    by-test (wrong_length n) (λ e. rw e) λ e.
    by-test (accepted f n) (λ a. rw (e, a) (stored-over f (bus_in f).slots n k i (omega arith) l slot_count)) (λ a. rw (e, a))

-- a form that is as long as its slots' kinds say has the bytes of every present slot
pub whole_in : (f : List ℕ) (ss : List Slot) (k : ℕ) → begins field_count ss ≤ length f → k < slot_count → absent (get_or ss k absent_slot) ≡ false
    → length (bytes_at f ss k) ≡ own_bytes ss k
whole_in f ss k h l a =
    let w : place memory_row k ss + size_in memory_row (get_or ss k absent_slot) ≤ begins field_count ss = share-within ss memory_row k (omega arith) (fixed-there memory_row ss (omega arith)) l in
    let s : size_in memory_row (get_or ss k absent_slot) ≡ own_bytes ss k = unfold size_in field_at fields memory_field absent in rw a in
    rw (length-take, length-drop) (omega arith)

-- What is read into a memory n: of each slot, its bytes in the form if it is present, with those in n that are not its own, else its bytes in n. And n
-- stays as long as it was.
pub length-read : (f n : List ℕ) → length (memory_in f n) ≡ length n
unfolding memory_in
length-read f n = length-stored f (bus_in f).slots n slot_count

pub part-read : (f n : List ℕ) (k : ℕ) → length n ≡ memory_bytes → begins field_count (bus_in f).slots ≤ length f → k < slot_count
    → part slot_bytes k (memory_in f n)
    ≡ cond (absent (get_or (bus_in f).slots k absent_slot)) (part slot_bytes k n) (overlaid f (bus_in f).slots n k)
unfolding memory_in
part-read f n k l h g = part-stored f (bus_in f).slots n l slot_count k g (omega arith) (λ j i. whole_in f (bus_in f).slots j h i)
