-- The records' events, by their numbers and at the front of an array; and one record after another.
-- Assumes nothing.
use mathlib.Core.Path.{◌≡◌, refl, sym, ◌∙◌, ap, ap₂}
use mathlib.Core.List.{List, [], ◌∷◌, ◌++◌}
use Prim.Native.Nat.{ℕ, zero, suc, ◌+◌, ◌*◌, ◌/◌, ◌≤◌, ◌<◌}
use native.Mathlib.Omega.{arith}
use borrow.Author.Tests.{ltb-true, ltb-false}
use lib.Dec.{ltb}
use lib.ListN.{length, get_or, set, take, drop, replicate, length-drop, length-append, get_or-append}
use lib.Seq.{get_or_at, take_at, take_all, drop-drop, drop_at}
use Rattle.std.proofs.lemmas.List.{get_or-drop}
use Rattle.proof_lists.specs.Each.{filled, filled-step}
use Rattle.proof_lists.specs.Tests.{by-test}
use Rattle.rules.specs.declared.Event.{Event}
use Rattle.script_text.specs.Records.{record_at}
use Rattle.list_lend.specs.Listed.{events_in, no_event, events_for}

pub length-events : (bs : List ℕ) (n : ℕ) → length (events_in bs n) ≡ n
unfolding events_in
length-events bs zero = refl
length-events bs (suc n) = length-append (events_in bs n) (record_at bs (4 * n) ∷ []) ∙ omega (arith, length-events bs n)

events-at : (bs : List ℕ) (n k : ℕ) (z : Event) → k < n → get_or (events_in bs n) k z ≡ record_at bs (4 * k)
unfolding events_in
events-at bs zero k z h = absurd (none h)
  where
    none : {i : ℕ} → i < 0 → ⊥
    none h = omega arith
events-at bs (suc n) k z h =
    by-test (ltb k n)
    (λ e. get_or-append (events_in bs n) (record_at bs (4 * n) ∷ []) z k (rw (length-events bs n) (ltb-true k n e)) ∙ events-at bs n k z (ltb-true k n e))
    (λ e.
    let f : n ≡ k = let g : n ≤ k = ltb-false k n e in omega arith in
    get_or_at (events_in bs n) (record_at bs (4 * n)) [] z k (length-events bs n ∙ f) ∙ ap (λ i. record_at bs (4 * i)) f)

-- one record more, stored
pub events-step : (d es : List Event) (bs : List ℕ) (n i : ℕ) (e : Event) → es ≡ filled d (events_in bs n) i → e ≡ record_at bs (4 * i) → i < n → n ≤ length d
    → set es i e ≡ filled d (events_in bs n) (i + 1)
events-step d es bs n i e f g h l =
    ap₂ (λ (u : List Event) (q : Event). set u i q) f (g ∙ sym (events-at bs n i no_event h))
    ∙ filled-step d (events_in bs n) i no_event (omega arith) (rw (length-events bs n) h)

-- the front of the array are the records' events
pub events-front : (bs : List ℕ) → take (length bs / 4) (events_for bs) ≡ events_in bs (length bs / 4)
unfolding events_for filled
events-front bs =
    let n : ℕ = length bs / 4 in
    let es : List Event = events_in bs n in
    let a : take n es ≡ es = take_all n es (omega (arith, length-events bs n)) in
    rw a (take_at es (drop n (replicate 4096 no_event)) n (length-events bs n))

-- the next record, cut out of what is left
module _ (bs rest x more : List ℕ) (n : ℕ) (left : rest ≡ drop (4 * n) bs) (cut : rest ≡ x ++ more) (four : length x ≡ 4) where
  there : drop (4 * n) bs ≡ x ++ more
  there = sym left ∙ cut

  byte : (j : ℕ) → j < 4 → get_or x j 0 ≡ get_or bs (4 * n + j) 0
  byte j h = sym (get_or-append x more 0 j (rw four h)) ∙ ap (λ (l : List ℕ). get_or l j 0) (sym there) ∙ get_or-drop (4 * n) bs j 0

  pub record-there : record_at x 0 ≡ record_at bs (4 * n)
  unfolding record_at
  record-there =
      let here : 4 * n + 0 ≡ 4 * n = omega arith in
      rw (byte 0 (omega arith) ∙ ap (λ (k : ℕ). get_or bs k 0) here, byte 1 (omega arith), byte 2 (omega arith), byte 3 (omega arith))

  pub left-within : 4 * (n + 1) ≤ length bs
  left-within = omega (arith, ap length there, length-append x more, length-drop (4 * n) bs)

  pub left-on : more ≡ drop (4 * (n + 1)) bs
  left-on =
      let e : 4 * n + 4 ≡ 4 * (n + 1) = omega arith in
      sym (drop_at x more 4 four) ∙ ap (drop 4) (sym there) ∙ drop-drop 4 (4 * n) bs ∙ ap (λ (k : ℕ). drop k bs) e
