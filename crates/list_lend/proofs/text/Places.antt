-- No event's answer is blank, so the places of a list that was taken are written as the answers' lines and then a `.` for each place past the end.
-- Assumes nothing.
use mathlib.Core.Path.{◌≡◌, refl, sym, ◌∙◌, ap, ap₂}
use mathlib.Core.Bool.{true, false, false≢true}
use mathlib.Core.List.{List, [], ◌∷◌, ◌++◌, append_assoc}
use Prim.Native.Nat.{ℕ, zero, suc, ◌*◌, ◌-◌, ◌≤◌}
use native.Mathlib.Omega.{arith}
use lib.ListN.{length, take, drop, replicate, length-append}
use Rattle.proof_lists.specs.Tests.{by-test}
use Rattle.rules.specs.declared.Answer.{Answer}
use Rattle.rules.specs.declared.Answer.TheVariants.{Nothing, Ack, Nack, Data, Refused}
use Rattle.rules.specs.declared.Bus.{Bus}
use Rattle.rules.specs.declared.Event.{Event}
use Rattle.rules.specs.declared.Refusal.TheVariants.{MemoryLength, UnknownKind, WrongSlot, WrongValue, WrongSetup, WrongState, ProtectedPage, Busy, TooShort, WrongForm}
use Rattle.rules.specs.Events.{letter_of, value_of, refusal_number}
use Rattle.rules.specs.Runs.{Bench, next, answered, answers}
use Rattle.rules.proofs.Range.Judged.{Row, row, row-1, row-6, row-2, row-3, row-4, row-at-refused}
use Rattle.script_text.specs.Letters.{line_of}
use Rattle.script_text.proofs.letters.Laws.{line-length}
use Rattle.list_lend.specs.Listed.{blank, is_setups, is_blank, place_line, place_lines, answer_lines, dot_lines}

-- an event is refused with 1, 2, 3, 4 or 6
not_five : (b : Bus) (m : List ℕ) (e : Event) (n : ℕ) → Row b m e n → n ≡ 5 → ⊥
not_five b m e n (row r f (row-1 g h)) k = omega arith
not_five b m e n (row r f (row-6 g h i)) k = omega arith
not_five b m e n (row r f (row-2 g h i j)) k = omega arith
not_five b m e n (row r f (row-3 g h i j l)) k = omega arith
not_five b m e n (row r f (row-4 g h i j l o)) k = omega arith

-- a blank place is a setup's refusal
blank-five : (a : Answer) → is_blank a ≡ true → (letter_of a ≡ 0x52) × (value_of a ≡ 5)
unfolding is_blank is_setups letter_of value_of refusal_number
blank-five Nothing h = absurd (false≢true h)
blank-five Ack h = absurd (false≢true h)
blank-five Nack h = absurd (false≢true h)
blank-five (Data b) h = absurd (false≢true h)
blank-five (Refused WrongSetup) h = (refl, refl)
blank-five (Refused MemoryLength) h = absurd (false≢true h)
blank-five (Refused UnknownKind) h = absurd (false≢true h)
blank-five (Refused WrongSlot) h = absurd (false≢true h)
blank-five (Refused WrongValue) h = absurd (false≢true h)
blank-five (Refused WrongState) h = absurd (false≢true h)
blank-five (Refused ProtectedPage) h = absurd (false≢true h)
blank-five (Refused Busy) h = absurd (false≢true h)
blank-five (Refused TooShort) h = absurd (false≢true h)
blank-five (Refused WrongForm) h = absurd (false≢true h)

-- so no event's answer is one
pub never-blank : (e : Event) (x : Bench) → is_blank (answered e x) ≡ false
never-blank e x =
    by-test (is_blank (answered e x))
    (λ h.
    let f = blank-five (answered e x) h in
    absurd (not_five x.bus x.memory e (value_of (answered e x)) (row-at-refused e x f.0) f.1))
    (λ h. h)

-- the places that have their answers
answers-lines : (es : List Event) (x : Bench) → place_lines (answers es x) ≡ answer_lines (answers es x)
unfolding answers place_lines place_line answer_lines
answers-lines [] x = refl
answers-lines (e ∷ es) x = rw (never-blank e x) (ap (line_of (answered e x) ++◌) (answers-lines es (next e x)))

-- the places past the end
blank-lines : (n : ℕ) → place_lines (replicate n blank) ≡ dot_lines n
unfolding place_lines place_line is_blank is_setups dot_lines
blank-lines zero = refl
blank-lines (suc n) = ap (λ (l : List ℕ). 0x2E ∷ 0x0A ∷ l) (blank-lines n)

lines-append : (p q : List Answer) → place_lines (p ++ q) ≡ place_lines p ++ place_lines q
unfolding place_lines
lines-append [] q = refl
lines-append (a ∷ p) q = ap (place_line a ++◌) (lines-append p q) ∙ sym (append_assoc (place_line a) (place_lines p) (place_lines q))

-- parts of places that are all the same
pub drop-same : {A : Type 0} (n m : ℕ) (a : A) → drop n (replicate m a) ≡ replicate (m - n) a
drop-same zero m a = let e : m ≡ m - 0 = omega arith in ap (λ (k : ℕ). replicate k a) e
drop-same (suc n) zero a = let e : 0 ≡ 0 - suc n = omega arith in ap (λ (k : ℕ). replicate k a) e
drop-same (suc n) (suc m) a = let e : m - n ≡ suc m - suc n = omega arith in drop-same n m a ∙ ap (λ (k : ℕ). replicate k a) e

pub take_same : {A : Type 0} (n m : ℕ) (a : A) → n ≤ m → take n (replicate m a) ≡ replicate n a
take_same zero m a h = refl
take_same (suc n) zero a h = absurd (none h)
  where
    none : {i : ℕ} → suc i ≤ 0 → ⊥
    none h = omega arith
take_same (suc n) (suc m) a h = ap (a ∷◌) (take_same n m a (omega arith))

-- WHAT IS WRITTEN OF A LIST THAT WAS TAKEN
pub taken-lines : (es : List Event) (x : Bench) (places : ℕ)
    → place_lines (answers es x ++ drop (length es) (replicate places blank)) ≡ answer_lines (answers es x) ++ dot_lines (places - length es)
taken-lines es x places =
    lines-append (answers es x) (drop (length es) (replicate places blank))
    ∙ ap₂ ◌++◌ (answers-lines es x) (ap place_lines (drop-same (length es) places blank) ∙ blank-lines (places - length es))

-- which is at most four bytes for each place
answers-most : (es : List Event) (x : Bench) → length (answer_lines (answers es x)) ≤ 4 * length es
unfolding answers answer_lines
answers-most [] x = omega arith
answers-most (e ∷ es) x =
    rw (length-append (line_of (answered e x)) (answer_lines (answers es (next e x)))) (omega (arith, line-length (answered e x), answers-most es (next e x)))

dots-most : (n : ℕ) → length (dot_lines n) ≡ 2 * n
unfolding dot_lines
dots-most zero = refl
dots-most (suc n) = omega (arith, dots-most n)

pub taken-most : (es : List Event) (x : Bench) (places : ℕ) → length es ≤ places → length (answer_lines (answers es x) ++ dot_lines (places - length es)) ≤ 4 * places
taken-most es x places h =
    rw (length-append (answer_lines (answers es x)) (dot_lines (places - length es))) (omega (arith, answers-most es x, dots-most (places - length es)))
