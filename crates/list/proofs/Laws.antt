-- The answer, by what each branch of the code gives, and how long it can be.
-- Assumes nothing.
use mathlib.Core.Path.{◌≡◌, sym, ◌∙◌, ap}
use mathlib.Core.Bool.{true, false}
use mathlib.Core.List.{List}
use Rattle.std.proofs.Common.{Ok, Err}
use Prim.Native.Nat.{ℕ, ◌/◌, ◌%◌, ◌≤◌}
use native.Mathlib.Omega.{arith}
use borrow.Author.Tests.{lt-ltb, le-ltb, eqb-true, not-false, ltb-false}
use lib.Dec.{eqb, ltb}
use mir.Syntax.{w8}
use mir.Val.{Fits}
use lib.ListN.{length, get_or, replicate, length-replicate}
use lib.Seq.{sets}
use Rattle.proof_lists.specs.Tests.{by-test, cond_cases, or_left_false, or_right_false}
use Rattle.rules.specs.declared.Event.{Event}
use Rattle.rules.specs.Events.{letter_of, refusal_number}
use Rattle.rules.specs.Runs.{Bench}
use Rattle.script_text.specs.Decimal.{digit, decimal_in, decimal}
use Rattle.script_text.specs.Letters.{digits_of, line_of, short_line}
use Rattle.list_entry.specs.Lists.{too_few, not_taken, taken, listed, events_of}
use Rattle.list_lend.specs.declared.text.Told.{Told}
use Rattle.list_lend.specs.Listed.{number_in, events_in, blank, list_text, told_of, too_many_text}
use Rattle.list_lend.proofs.text.Places.{taken-lines, taken-most}
use Rattle.list_lend.specs.Given.{given_of}
use Rattle.list.specs.Asked.{lines_for, too_many, is_cut, list_for, put_for, answered_by, answer_of}

-- the text of a call on so many blank places
list-text : (x : Bench) (es : List Event) (places : ℕ)
    → list_text (events_of x.bus x.memory es (replicate places blank)).0.answer (events_of x.bus x.memory es (replicate places blank)).2 ≡ lines_for x es places
unfolding events_of listed too_few not_taken taken list_text lines_for line_of digits_of letter_of refusal_number decimal decimal_in digit
list-text x es places =
    let l : length (replicate places blank) ≡ places = length-replicate places blank in
    by-test (ltb places (length es)) (λ h. rw (l, h)) (λ h. rw (l, h) (taken-lines es x places))

-- what is put of it
given-put : (x : Bench) (es : List Event) (places : ℕ) (out : List ℕ) (r : Told) (m o : List ℕ)
    → given_of x.bus x.memory es (replicate places blank) out ≡ (r, m, o)
    → ◌≡◌ {A = ℕ × List ℕ} (length (lines_for x es places), sets out 0 (lines_for x es places)) (r.end, o)
unfolding given_of told_of
given-put x es places out r m o e =
    let put : List ℕ → ℕ × List ℕ = λ t. (length t, sets out 0 t) in
    let kept : Told × List ℕ × List ℕ → ℕ × List ℕ = λ z. (z.0.end, z.2) in
    ap put (sym (list-text x es places)) ∙ ap kept e

-- whole records, given as one list
pub put-by : (x : Bench) (number rs out : List ℕ) (places : ℕ) (r : Told) (m o : List ℕ) → (places ≡ number_in number) × (places ≤ 65535)
    → given_of x.bus x.memory (events_in rs (length rs / 4)) (replicate places blank) out ≡ (r, m, o) → put_for x number rs out ≡ (r.end, o)
unfolding put_for
put-by x number rs out places r m o p e = rw (sym p.0) (given-put x (events_in rs (length rs / 4)) places out r m o e)

-- a number of two bytes is at most 65,535
pub number-most : (number : List ℕ) → ((i : ℕ) → Fits w8 (get_or number i 0)) → number_in number ≤ 65535
unfolding number_in
number-most number f = omega (arith, f 0, f 1)

-- what is not cut, nor too much, is whole
pub whole-by : (number rs : List ℕ) → length rs ≤ 16388 → (length rs ≡ 16388 → ⊥) → is_cut number rs ≡ false → (2 ≤ length number) × (length rs ≤ 16384)
unfolding is_cut
whole-by number rs h k c =
    let long = ltb-false (length number) 2 (or_left_false _ _ c) in
    let records : length rs % 4 ≡ 0 = eqb-true (length rs % 4) 0 (not-false (eqb (length rs % 4) 0) (or_right_false (ltb (length number) 2) _ c)) in
    (long, omega arith)

-- too many records, a cut, and a list
module _ (x : Bench) (number rs out o : List ℕ) (end : ℕ) where
  pub answer-many : length rs ≡ 16388 → (end ≡ 41) × (o ≡ sets out 0 too_many_text) → answer_of x number rs out ≡ (Err end, o)
  unfolding answer_of answered_by too_many
  answer-many h p = rw (le-ltb (length rs) 16388 (omega arith), p.0, p.1)

  pub answer-cut : length rs ≤ 16388 → (length rs ≡ 16388 → ⊥) → is_cut number rs ≡ true → (end ≡ 6) × (o ≡ sets out 0 short_line)
      → answer_of x number rs out ≡ (Ok end, o)
  unfolding answer_of answered_by too_many list_for
  answer-cut h k c p = rw (lt-ltb (length rs) 16388 (omega arith), c, p.0, p.1)

  pub answer-list : length rs ≤ 16388 → (length rs ≡ 16388 → ⊥) → is_cut number rs ≡ false → put_for x number rs out ≡ (end, o)
      → answer_of x number rs out ≡ (Ok end, o)
  unfolding answer_of answered_by too_many list_for put_for
  answer-list h k c e = rw (lt-ltb (length rs) 16388 (omega arith), c) (ap (λ (z : ℕ × List ℕ). (Ok z.0, z.1)) e)

-- a list's lines have room
lines-most : (x : Bench) (es : List Event) (places : ℕ) → places ≤ 65535 → length (lines_for x es places) ≤ 262140
unfolding lines_for
lines-most x es places h =
    cond_cases (λ (l : List ℕ). length l ≤ 262140) (ltb places (length es)) (λ _. omega arith)
    (λ k. let m : length es ≤ places = ltb-false places (length es) k in omega (arith, taken-most es x places m))

pub list-most : (x : Bench) (number rs : List ℕ) → number_in number ≤ 65535 → length (list_for x number rs) ≤ 262140
unfolding list_for
list-most x number rs h =
    cond_cases (λ (l : List ℕ). length l ≤ 262140) (is_cut number rs) (λ _. omega arith) (λ _. lines-most x (events_in rs (length rs / 4)) (number_in number) h)
