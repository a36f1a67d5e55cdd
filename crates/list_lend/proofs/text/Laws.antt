-- Laws of the places' lines: which places are blank, how long a line is, lines put one after another, and each branch of the code in the definition's words.
-- Assumes nothing.
use mathlib.Core.Path.{◌≡◌, refl, sym, ◌∙◌, ap}
use Rattle.std.proofs.Common.{◌≢◌}
use mathlib.Core.Bool.{true, false}
use mathlib.Core.List.{List, [], ◌∷◌, ◌++◌, append-nil, append_assoc}
use Prim.Native.Nat.{ℕ, ◌+◌, ◌*◌, ◌≤◌, ◌<◌}
use native.Mathlib.Numerals.{add-one}
use native.Mathlib.Omega.{arith}
use lib.ListN.{length, get_or, take, length-append}
use lib.Seq.{sets, take-suc}
use Rattle.proof_lists.specs.Tests.{cond_cases}
use Rattle.rules.specs.contracts.AnswerPartialEq.TheImpl as answers
use Rattle.rules.specs.declared.Answer.{Answer}
use Rattle.rules.specs.declared.Answer.TheVariants.{Nothing, Ack, Nack, Data, Refused}
use Rattle.rules.specs.declared.Outcome.{Outcome}
use Rattle.rules.specs.declared.Refusal.{Refusal}
use Rattle.rules.specs.declared.Refusal.TheVariants.{MemoryLength, UnknownKind, WrongSlot, WrongValue, WrongSetup, WrongState, ProtectedPage, Busy, TooShort, WrongForm}
use Rattle.script_text.specs.Letters.{line_of}
use Rattle.script_text.proofs.letters.Laws.{Put, put_on, at_front, line-length}
use Rattle.list_lend.specs.Listed.{blank, is_setups, is_blank, place_line, place_lines, list_text, told_of}

-- any refusal but a setup's
pub other-refusal : (r : Refusal) → r ≢ WrongSetup → false ≡ is_setups r
unfolding is_setups
other-refusal MemoryLength h = refl
other-refusal UnknownKind h = refl
other-refusal WrongSlot h = refl
other-refusal WrongValue h = refl
other-refusal WrongSetup h = absurd (h refl)
other-refusal WrongState h = refl
other-refusal ProtectedPage h = refl
other-refusal Busy h = refl
other-refusal TooShort h = refl
other-refusal WrongForm h = refl

-- any answer but a refusal
pub other-blank : (a : Answer) → ((r : Refusal) → a ≢ Refused r) → false ≡ is_blank a
unfolding is_blank
other-blank Nothing h = refl
other-blank Ack h = refl
other-blank Nack h = refl
other-blank (Data b) h = refl
other-blank (Refused r) h = absurd (h r refl)

-- an answer that `==` says is blank, is
pub same_blank : (a : Answer) → (answers.ghosts).eq a blank ≡ is_blank a
unfolding is_blank is_setups
same_blank Nothing = refl
same_blank Ack = refl
same_blank Nack = refl
same_blank (Data b) = refl
same_blank (Refused MemoryLength) = refl
same_blank (Refused UnknownKind) = refl
same_blank (Refused WrongSlot) = refl
same_blank (Refused WrongValue) = refl
same_blank (Refused WrongSetup) = refl
same_blank (Refused WrongState) = refl
same_blank (Refused ProtectedPage) = refl
same_blank (Refused Busy) = refl
same_blank (Refused TooShort) = refl
same_blank (Refused WrongForm) = refl

-- a place's line is at most four bytes
place-length : (a : Answer) → length (place_line a) ≤ 4
unfolding place_line
place-length a = cond_cases (λ (l : List ℕ). length l ≤ 4) (is_blank a) (λ _. omega arith) (λ _. line-length a)

pub place_end : (a : Answer) (at end : ℕ) (out o : List ℕ) → Put out at (place_line a) end o → end ≤ at + 4
place_end a at end out o p = omega (arith, place-length a)

-- one line more
pub lines_snoc : (places : List Answer) (a : Answer) → place_lines (places ++ a ∷ []) ≡ place_lines places ++ place_line a
unfolding place_lines
lines_snoc [] a = append-nil (place_line a)
lines_snoc (b ∷ places) a = ap (place_line b ++◌) (lines_snoc places a) ∙ sym (append_assoc (place_line b) (place_lines places) (place_line a))

pub lines-on : (places : List Answer) (out o p : List ℕ) (k mid end : ℕ) (a z : Answer) → k < length places → a ≡ get_or places k z
    → Put out 0 (place_lines (take k places)) mid o → Put o mid (place_line a) end p → Put out 0 (place_lines (take (k + 1) places)) end p
lines-on places out o p k mid end a z h e f g =
    let s : place_lines (take (k + 1) places) ≡ place_lines (take k places) ++ place_line a =
    rw (add-one, take-suc places k z h, ← e) (lines_snoc (take k places) a) in
    rw s (put_on out o p 0 mid end (place_lines (take k places)) (place_line a) f g)

-- a place's line: blank, or its answer's
module _ (a : Answer) (at end : ℕ) (out o : List ℕ) where
  pub blank-by : is_blank a ≡ true → Put out at (0x2E ∷ 0x0A ∷ []) end o → Put out at (place_line a) end o
  unfolding place_line
  blank-by e p = rw e p

  pub answer-by : is_blank a ≡ false → Put out at (line_of a) end o → Put out at (place_line a) end o
  unfolding place_line
  answer-by e p = rw e p

-- no line yet
pub lines_none : (places : List Answer) (out : List ℕ) → Put out 0 (place_lines (take 0 places)) 0 out
unfolding place_lines
lines_none places out = (refl, refl)

-- what is told of a refused call, and of one that was taken
refused-text : (a : Answer) (r : Refusal) (places : List Answer) → a ≡ Refused r → list_text a places ≡ line_of a
unfolding list_text
refused-text a r places e = rw e

other_text : (a : Answer) (places : List Answer) → ((r : Refusal) → a ≢ Refused r) → list_text a places ≡ place_lines places
unfolding list_text
other_text Nothing places h = refl
other_text Ack places h = refl
other_text Nack places h = refl
other_text (Data b) places h = refl
other_text (Refused r) places h = absurd (h r refl)

pub refused-by : (d : Outcome) (r : Refusal) (places : List Answer) (out o : List ℕ) (end : ℕ) → d.answer ≡ Refused r → Put out 0 (line_of d.answer) end o
    → told_of d places out ≡ (record { bus = d.bus; end = end }, o)
unfolding told_of
refused-by d r places out o end e p =
    let q = at_front out o end (line_of d.answer) p in
    rw (refused-text d.answer r places e, q.0, q.1)

pub taken-by : (d : Outcome) (places : List Answer) (out o : List ℕ) (end : ℕ) → ((r : Refusal) → d.answer ≢ Refused r)
    → (end ≡ length (place_lines places)) × (o ≡ sets out 0 (place_lines places)) → told_of d places out ≡ (record { bus = d.bus; end = end }, o)
unfolding told_of
taken-by d places out o end h p =
    rw (other_text d.answer places h, p.0, p.1)

-- how long what is told can be
lines-most : (places : List Answer) → length (place_lines places) ≤ 4 * length places
unfolding place_lines
lines-most [] = omega arith
lines-most (a ∷ places) = rw (length-append (place_line a) (place_lines places)) (omega (arith, place-length a, lines-most places))

pub text-most : (a : Answer) (places : List Answer) → length (list_text a places) ≤ 4 + 4 * length places
unfolding list_text
text-most Nothing places = omega (arith, lines-most places)
text-most Ack places = omega (arith, lines-most places)
text-most Nack places = omega (arith, lines-most places)
text-most (Data b) places = omega (arith, lines-most places)
text-most (Refused r) places = omega (arith, line-length (Refused r))
