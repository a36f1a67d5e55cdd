-- What `written` puts is `written_for` of what came; and what stands behind one record too many does not count.
-- Assumes nothing.
use mathlib.Core.Path.{◌≡◌, sym, ◌∙◌, ap, ap₂, subst}
use mathlib.Core.Bool.{true, false, false≢true, cond}
use mathlib.Core.List.{List, ◌++◌, append_assoc}
use Rattle.std.proofs.Common.{Result, Ok, Err}
use Prim.Native.Nat.{ℕ, ◌+◌, ◌-◌, ◌≤◌, min}
use native.Mathlib.Omega.{arith}
use borrow.Author.Tests.{le-ltb, ltb-true, ltb-false}
use lib.Dec.{ltb}
use lib.ListN.{length, take, drop, take-append-drop, length-append, length-drop, drop_of_length-le}
use lib.Seq.{length-sets, length-take-le, take_all}
use Rattle.std.specs.List.{list_all}
use Rattle.proof_lists.specs.Tests.{by-test}
use Rattle.rules.specs.Refusals.{good_pair}
use Rattle.rules.specs.Runs.{Bench}
use Rattle.script_text.specs.Records.{pairs_of}
use Rattle.script_text.proofs.records.Laws.{pairs-of}
use Rattle.script_turns.specs.Frame.{cut_setup, first_line, goes_on, begin_of}
use Rattle.script_turns.specs.Script.{begun_at}
use Rattle.script_turns.proofs.frame.Laws.{first-length, written}
use Rattle.script_turns.proofs.frame.Onward.{begin-goes, begin-stops}
use Rattle.list_lend.specs.Listed.{number_in, too_many_text}
use Rattle.script_streams.specs.Written.{on_output, on_errors}
use Rattle.list.specs.Asked.{too_many, list_for, end_for, written_for, answered_by, answer_of, end_of, fronted}
use Rattle.list.proofs.Laws.{list-most}

-- the smaller of what came and so many bytes
abbrev pub up_to : ℕ → List ℕ → ℕ
up_to n bs = cond (ltb (length bs) n) (length bs) n

pub first-of : (n : ℕ) (bs : List ℕ) → min (length bs) n ≡ up_to n bs
first-of n bs = by-test (ltb (length bs) n) (λ t. let l = ltb-true (length bs) n t in rw t (omega arith)) (λ t. let l = ltb-false (length bs) n t in rw t (omega arith))

-- the bytes that are taken for the setup: where it is not whole, all that came
module _ (bs : List ℕ) where
  abbrev head : List ℕ
  head = take (up_to 16 bs) bs

  head-cut : ltb (length bs) 16 ≡ true → head ≡ bs
  head-cut c = rw c (take_all (length bs) bs (omega arith))

  head-whole : ltb (length bs) 16 ≡ false → length head ≡ 16
  head-whole c = rw c (length-take-le 16 bs (ltb-false (length bs) 16 c))

  pairs_first : ltb (length bs) 16 ≡ false → pairs_of bs ≡ pairs_of head
  pairs_first c =
      let k : take 16 bs ++ drop 16 bs ≡ bs = take-append-drop 16 bs in
      let l : length (take 16 bs) ≡ 16 = length-take-le 16 bs (ltb-false (length bs) 16 c) in
      rw c (sym (ap pairs_of k) ∙ pairs-of (take 16 bs) (drop 16 bs) l)

-- where nothing follows the setup, what is written is its line; otherwise the setup is whole and good
module _ (bs h : List ℕ) (cut : ltb (length bs) 16 ≡ true → h ≡ bs) (whole : ltb (length bs) 16 ≡ false → (length h ≡ 16) × (pairs_of bs ≡ pairs_of h)) where
  stops_at : goes_on h ≡ false → written_for bs ≡ on_output (first_line h)
  unfolding goes_on cut_setup first_line written_for
  stops_at g = by-test (ltb (length bs) 16)
      (λ c. subst (λ (z : List ℕ). written_for bs ≡ on_output (first_line z)) (sym (cut c)) (rw c))
      (λ c.
      let d : ltb (length h) 16 ≡ false = le-ltb (length h) 16 (omega (arith, (whole c).0)) in
      let a : list_all good_pair (pairs_of h) ≡ false = rw d at g in
      rw ((whole c).1, c, d, a))

  goes_at : goes_on h ≡ true → (ltb (length bs) 16 ≡ false) × (list_all good_pair (pairs_of bs) ≡ true)
  unfolding goes_on cut_setup
  goes_at g = by-test (ltb (length bs) 16)
      (λ c. absurd (false≢true (sym (subst (λ (z : List ℕ). goes_on z ≡ false) (sym (cut c)) (rw c)) ∙ g)))
      (λ c.
      let d : ltb (length h) 16 ≡ false = le-ltb (length h) 16 (omega (arith, (whole c).0)) in
      (c, ap (list_all good_pair) (whole c).1 ∙ rw d at g))

module _ (bs : List ℕ) where
  whole-head : ltb (length bs) 16 ≡ false → (length (head bs) ≡ 16) × (pairs_of bs ≡ pairs_of (head bs))
  whole-head c = (head-whole bs c, pairs_first bs c)

  stops : goes_on (head bs) ≡ false → written_for bs ≡ on_output (first_line (head bs))
  stops = stops_at bs (head bs) (head-cut bs) whole-head

  goes : goes_on (head bs) ≡ true → (ltb (length bs) 16 ≡ false) × (list_all good_pair (pairs_of bs) ≡ true)
  goes = goes_at bs (head bs) (head-cut bs) whole-head

-- where nothing follows: the setup's line, on standard output
pub stopped : (bs out o : List ℕ) (n end : ℕ) → n ≡ up_to 16 bs → begin_of (take n bs) out ≡ (Err end, o) → 6 ≤ length out
    → (end ≤ length o) × (fronted (Ok end) o ≡ written_for bs)
unfolding fronted
stopped bs out o n end at b room =
    let e : begin_of (head bs) out ≡ (Err end, o) = subst (λ (i : ℕ). begin_of (take i bs) out ≡ (Err end, o)) at b in
    let s = begin-stops (head bs) out o end e in
    let line : List ℕ = first_line (head bs) in
    let long : length o ≡ length out = ap length s.2 ∙ length-sets out 0 line in (
      omega (arith, first-length (head bs), s.1),
      ap₂ (λ (n : ℕ) (z : List ℕ). on_output (take n z)) s.1 s.2 ∙ ap on_output (written out line (omega (arith, first-length (head bs)))) ∙ sym (stops bs s.0),
    )

-- the number of places and the records, as they are cut out of what came
module _ (bs : List ℕ) (whole : ltb (length bs) 16 ≡ false) where
  number-there : take (up_to 18 bs - up_to 16 bs) (drop (up_to 16 bs) bs) ≡ take 2 (drop 16 bs)
  number-there = by-test (ltb (length bs) 18)
      (λ c. rw (whole, c) (take_all (length bs - 16) (drop 16 bs) (omega (arith, length-drop 16 bs)) ∙ sym (take_all 2 (drop 16 bs) (omega (arith, length-drop 16 bs, ltb-true (length bs) 18 c)))))
      (λ c. rw (whole, c))

  records-there : drop (up_to 18 bs) bs ≡ drop 18 bs
  records-there = by-test (ltb (length bs) 18)
      (λ c. rw c (drop_of_length-le bs {i = length bs} (omega arith) ∙ sym (drop_of_length-le bs {i = 18} (omega (arith, ltb-true (length bs) 18 c)))))
      (λ c. rw c)

-- what is put for the number of places and the records is what is written for them
put-ends : (x : Bench) (number rs o p : List ℕ) (a : Result ℕ ℕ) → number_in number ≤ 65535 → 262140 ≤ length o → answer_of x number rs o ≡ (a, p)
    → (end_of a ≤ length p) × (fronted a p ≡ end_for x number rs)
unfolding answer_of answered_by fronted end_for
put-ends x number rs o p a n room q =
    let P : Result ℕ ℕ × List ℕ → Type 0 = λ z. (end_of z.0 ≤ length z.1) × (fronted z.0 z.1 ≡ end_for x number rs) in
    let most : length (list_for x number rs) ≤ 262140 = list-most x number rs n in
    subst P q (by-test (too_many rs)
    (λ t. rw t (omega (arith, length-sets o 0 too_many_text), ap on_errors (written o too_many_text (omega arith))))
    (λ t. rw t (omega (arith, length-sets o 0 (list_for x number rs)), ap on_output (written o (list_for x number rs) (omega arith)))))

-- where the setup is good: the answer to what follows it
pub answered : (bs out o p : List ℕ) (i j : ℕ) (x : Bench) (a : Result ℕ ℕ) → i ≡ up_to 16 bs → j ≡ up_to 18 bs
    → begin_of (take i bs) out ≡ (Ok x, o) → 262140 ≤ length out
    → (number_in (take (j - i) (drop i bs)) ≤ 65535) × (answer_of x (take (j - i) (drop i bs)) (take (length bs - j) (drop j bs)) o ≡ (a, p))
    → (end_of a ≤ length p) × (fronted a p ≡ written_for bs)
unfolding written_for
answered bs out o p i j x a at₁ at₂ b room t =
    let e : begin_of (head bs) out ≡ (Ok x, o) = subst (λ (i : ℕ). begin_of (take i bs) out ≡ (Ok x, o)) at₁ b in
    let cut : take (j - i) (drop i bs) ≡ take (up_to 18 bs - up_to 16 bs) (drop (up_to 16 bs) bs) = ap₂ (λ (i j : ℕ). take (j - i) (drop i bs)) at₁ at₂ in
    let s = begin-goes (head bs) out o x e in
    let w = goes bs s.0 in
    let bench : x ≡ begun_at (pairs_of bs) = s.1 ∙ ap begun_at (sym (pairs_first bs w.0)) in
    let long : length o ≡ length out = ap length s.2 in
    let number : take (j - i) (drop i bs) ≡ take 2 (drop 16 bs) = cut ∙ number-there bs w.0 in
    let records : take (length bs - j) (drop j bs) ≡ drop 18 bs = take_all (length bs - j) (drop j bs) (omega (arith, length-drop j bs)) ∙ ap (λ (j : ℕ). drop j bs) at₂ ∙ records-there bs w.0 in
    let there : answer_of (begun_at (pairs_of bs)) (take 2 (drop 16 bs)) (drop 18 bs) o ≡ (a, p) =
    ap₂ (λ (x : Bench) (z : List ℕ × List ℕ). answer_of x z.0 z.1 o) (sym bench) (λ i. (sym number i, sym records i)) ∙ t.1 in
    let f = put-ends (begun_at (pairs_of bs)) (take 2 (drop 16 bs)) (drop 18 bs) o p a (subst (λ (z : List ℕ). number_in z ≤ 65535) number t.0) (omega arith) there in
    (f.0, f.1 ∙ rw (w.0, w.1))

-- WHAT STANDS BEHIND ONE RECORD TOO MANY DOES NOT COUNT: so the program need not read it
pub read-so-far : (bs rest : List ℕ) → 16406 ≤ length bs → written_for (bs ++ rest) ≡ written_for bs
unfolding written_for end_for too_many
read-so-far bs rest l =
    let n : length (bs ++ rest) ≡ length bs + length rest = length-append bs rest in
    let first : take 16 bs ++ drop 16 bs ≡ bs = take-append-drop 16 bs in
    let k : length (take 16 bs) ≡ 16 = length-take-le 16 bs (omega arith) in
    let p : pairs_of bs ≡ pairs_of (take 16 bs) = sym (ap pairs_of first) ∙ pairs-of (take 16 bs) (drop 16 bs) k in
    let q : pairs_of (bs ++ rest) ≡ pairs_of (take 16 bs) =
    ap (λ (z : List ℕ). pairs_of (z ++ rest)) (sym first) ∙ ap pairs_of (append_assoc (take 16 bs) (drop 16 bs) rest) ∙ pairs-of (take 16 bs) (drop 16 bs ++ rest) k in
    let a : ltb (length (bs ++ rest)) 16 ≡ false = le-ltb (length (bs ++ rest)) 16 (omega arith) in
    let b : ltb (length bs) 16 ≡ false = le-ltb (length bs) 16 (omega arith) in
    let c : ltb (length (drop 18 (bs ++ rest))) 16388 ≡ false = le-ltb (length (drop 18 (bs ++ rest))) 16388 (rw (length-drop 18 (bs ++ rest)) (omega arith)) in
    let d : ltb (length (drop 18 bs)) 16388 ≡ false = le-ltb (length (drop 18 bs)) 16388 (rw (length-drop 18 bs) (omega arith)) in
    rw (a, b, p, q, c, d)
