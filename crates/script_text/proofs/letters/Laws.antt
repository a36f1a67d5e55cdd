-- Laws of the answers' lines and of numbers: texts put one behind the other, how long they are, and each branch of the code in the definition's words.
-- Assumes nothing.
use mathlib.Core.Path.{◌≡◌, refl, sym, ◌∙◌, ap}
use mathlib.Core.List.{List, [], ◌∷◌, ◌++◌}
use Prim.Native.Nat.{ℕ, ◌+◌, ◌/◌, ◌≤◌}
use native.Mathlib.Nat.{zero-add}
use native.Mathlib.Omega.{arith}
use lib.ListN.{length, length-append}
use lib.Seq.{sets}
use Rattle.proof_lists.specs.Stores.{sets-append}
use Rattle.rules.specs.declared.Answer.{Answer}
use Rattle.rules.specs.declared.Answer.TheVariants.{Nothing, Ack, Nack, Data, Refused}
use Rattle.rules.specs.declared.Refusal.{Refusal}
use Rattle.rules.specs.declared.Refusal.TheVariants.{MemoryLength, UnknownKind, WrongSlot, WrongValue, WrongSetup, WrongState, ProtectedPage, Busy, TooShort, WrongForm}
use Rattle.rules.specs.Events.{letter_of, refusal_number}
use Rattle.script_text.specs.Decimal.{digit, decimal}
use Rattle.script_text.specs.Letters.{digits_of, answer_text, line_of, refusal_line}
use Rattle.script_text.proofs.letters.Decimal.{decimal-more, digits-most}

-- a refusal's number has at most two digits
pub refusal-small : (r : Refusal) → refusal_number r ≤ 10
unfolding refusal_number
refusal-small MemoryLength = omega arith
refusal-small UnknownKind = omega arith
refusal-small WrongSlot = omega arith
refusal-small WrongValue = omega arith
refusal-small WrongSetup = omega arith
refusal-small WrongState = omega arith
refusal-small ProtectedPage = omega arith
refusal-small Busy = omega arith
refusal-small TooShort = omega arith
refusal-small WrongForm = omega arith

pub number_short : (r : Refusal) → length (decimal (refusal_number r)) ≤ 2
number_short r = digits-most 1 (refusal_number r) (omega (arith, refusal-small r))

-- a text put at a place, and another right behind it: together they are put there
abbrev pub Put : List ℕ → ℕ → List ℕ → ℕ → List ℕ → Type 0
Put out at text end o = (end ≡ at + length text) × (o ≡ sets out at text)

pub put_on : (out o p : List ℕ) (at mid end : ℕ) (x y : List ℕ) → Put out at x mid o → Put o mid y end p → Put out at (x ++ y) end p
put_on out o p at mid end x y f g = (
  omega (arith, length-append x y),
  g.1 ∙ ap (λ (l : List ℕ). sets l mid y) f.1 ∙ ap (λ k. sets (sets out at x) k y) f.0 ∙ sym (sets-append out at x y),
)

-- at the beginning the place after a text is its length
pub at_front : (out o : List ℕ) (end : ℕ) (x : List ℕ) → Put out 0 x end o → (end ≡ length x) × (o ≡ sets out 0 x)
at_front out o end x p = (p.0 ∙ zero-add (length x), p.1)

-- an answer has at most three characters, and its line a line's end more
pub answer-length : (a : Answer) → length (answer_text a) ≤ 3
unfolding digits_of
answer-length Nothing = omega arith
answer-length Ack = omega arith
answer-length Nack = omega arith
answer-length (Data b) = omega arith
answer-length (Refused r) = omega (arith, number_short r)

pub line-length : (a : Answer) → length (line_of a) ≤ 4
unfolding line_of
line-length a = rw (length-append (answer_text a) (0x0A ∷ [])) (omega (arith, answer-length a))

-- a refusal: its letter, and its number
pub number_by : (r : Refusal) (n at mid end : ℕ) (out o p : List ℕ) → n ≡ refusal_number r → Put out at (0x52 ∷ []) mid o → Put o mid (decimal n) end p
    → Put out at (answer_text (Refused r)) end p
unfolding digits_of letter_of
number_by r n at mid end out o p e f g = rw (← e) (put_on out o p at mid end (0x52 ∷ []) (decimal n) f g)

-- which has room in three characters
pub number-room : (r : Refusal) (n : ℕ) → n ≡ refusal_number r → length (decimal n) ≤ 2
number-room r n e = rw e (number_short r)

-- a line: the answer, and the line's end
pub line-by : (a : Answer) (at mid end : ℕ) (out o p : List ℕ) → Put out at (answer_text a) mid o → Put o mid (0x0A ∷ []) end p → Put out at (line_of a) end p
unfolding line_of
line-by a at mid end out o p f g = put_on out o p at mid end (answer_text a) (0x0A ∷ []) f g

-- a number of several digits has one more than a tenth of it
pub more_room : (n : ℕ) → 10 ≤ n → length (decimal n) ≡ length (decimal (n / 10)) + 1
more_room n h = rw (decimal-more n h) (length-append (decimal (n / 10)) (digit n ∷ []))

-- any other answer, by its place among the variants, has none
pub other-line : (a : Answer) → ((r : Refusal) → a ≡ Refused r → ⊥) → refusal_line a ≡ []
unfolding refusal_line
other-line Nothing h = refl
other-line Ack h = refl
other-line Nack h = refl
other-line (Data b) h = refl
other-line (Refused r) h = absurd (h r refl)
