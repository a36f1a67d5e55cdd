-- How long a verdict's line is, and each branch of the code in the definition's words.
-- Assumes nothing.
use mathlib.Core.Path.{◌≡◌}
use mathlib.Core.List.{List, [], ◌∷◌, ◌++◌}
use Prim.Native.Nat.{ℕ, ◌+◌, ◌^◌, ◌≤◌, ◌<◌}
use native.Mathlib.Omega.{arith}
use borrow.Author.Tests.{ne_eqb}
use lib.Dec.{eqb}
use lib.ListN.{length, length-append}
use lib.Seq.{sets}
use Rattle.proof_lists.specs.Tests.{cond_cases}
use Rattle.rules.specs.declared.Answer.{Answer}
use Rattle.rules.specs.declared.Answer.TheVariants as answer
use Rattle.rules.specs.declared.Refusal.{Refusal}
use Rattle.script_text.specs.Decimal.{decimal}
use Rattle.script_text.specs.Letters.{answer_text, line_of, digits_of}
use Rattle.script_text.proofs.letters.Decimal.{digits-most}
use Rattle.script_text.proofs.letters.Laws.{Put, put_on, at_front, answer-length, line-length}
use Rattle.capture_rules.specs.declared.Seen.{Seen}
use Rattle.capture_rules.specs.declared.Verdict.{Verdict}
use Rattle.capture_rules.specs.declared.Verdict.TheVariants.{Accepted, Differs, Short, Refused}
use Rattle.capture_pieces.specs.Line.{seen_text, difference_line, verdict_line}

-- a byte has at most three digits, and a `usize` twenty
pub byte-digits : (n : ℕ) → n < 256 → length (decimal n) ≤ 3
byte-digits n h = digits-most 2 n (omega arith)

pub usize-digits : (n : ℕ) → n < 2 ^ 64 → length (decimal n) ≤ 20
usize-digits n h = digits-most 19 n (omega arith)

-- a captured answer has at most four characters, its byte being one
module _ (s : Seen) where
  pub seen-length : s.byte < 256 → length (seen_text s) ≤ 4
  unfolding seen_text digits_of
  seen-length h =
      let P : List ℕ → Type 0 = λ l. length l ≤ 4 in
      cond_cases P (eqb s.code 0) (λ _. omega arith)
      (λ _. cond_cases P (eqb s.code 1) (λ _. omega arith)
      (λ _. cond_cases P (eqb s.code 2) (λ _. omega arith)
      (λ _. cond_cases P (eqb s.code 3) (λ _. omega arith)
      (λ _. cond_cases P (eqb s.code 4) (λ _. omega (arith, byte-digits s.byte h)) (λ _. omega arith)))))

-- the line of a record that differs: as long as its parts, two spaces and the line's end
difference-length : (n : ℕ) (a : Answer) (s : Seen) → length (difference_line n a s) ≡ length (decimal n) + 1 + length (answer_text a) + 1 + length (seen_text s) + 1
unfolding difference_line
difference-length n a s = simp length-append

pub difference-most : (n : ℕ) (a : Answer) (s : Seen) → n < 2 ^ 64 → s.byte < 256 → length (difference_line n a s) ≤ 30
difference-most n a s h l = omega (arith, difference-length n a s, usize-digits n h, answer-length a, seen-length s l)

-- so no verdict that the type can hold has a longer one, its number being a `usize` and the captured byte a byte
abbrev pub SizedVerdict : Verdict → Type 0
SizedVerdict Accepted = Unit {0}
SizedVerdict (Differs n a s) = (n < 2 ^ 64) × (s.byte < 256)
SizedVerdict Short = Unit {0}
SizedVerdict (Refused r) = Unit {0}

pub verdict-length : (v : Verdict) → SizedVerdict v → length (verdict_line v) ≤ 30
unfolding verdict_line
verdict-length Accepted h = omega arith
verdict-length (Differs n a s) h = difference-most n a s h.0 h.1
verdict-length Short h = omega arith
verdict-length (Refused r) h = omega (arith, line-length (answer.Refused r))

-- a difference: number, answer and answer, with what parts them
module _ (n : ℕ) (a : Answer) (s : Seen) (out o p q r t u : List ℕ) (i j k l m end : ℕ) where
  pub difference-by : Put out 0 (decimal n) i o → Put o i (0x20 ∷ []) j p → Put p j (answer_text a) k q → Put q k (0x20 ∷ []) l r
      → Put r l (seen_text s) m t → Put t m (0x0A ∷ []) end u
      → (end ≡ length (difference_line n a s)) × (u ≡ sets out 0 (difference_line n a s))
  unfolding difference_line
  difference-by f g h v w x =
      let us : List ℕ = decimal n ++ 0x20 ∷ [] in
      let vs : List ℕ = us ++ answer_text a in
      let ws : List ℕ = vs ++ 0x20 ∷ [] in
      let xs : List ℕ = ws ++ seen_text s in
      let y : Put out 0 us j p = put_on out o p 0 i j (decimal n) (0x20 ∷ []) f g in
      let z : Put out 0 vs k q = put_on out p q 0 j k us (answer_text a) y h in
      let c : Put out 0 ws l r = put_on out q r 0 k l vs (0x20 ∷ []) z v in
      let d : Put out 0 xs m t = put_on out r t 0 l m ws (seen_text s) c w in
      at_front out u end (xs ++ 0x0A ∷ []) (put_on out t u 0 m end xs (0x0A ∷ []) d x)

-- a refusal
pub not-checked-by : (v : Verdict) (r : Refusal) (end : ℕ) (out o : List ℕ) → v ≡ Refused r → Put out 0 (line_of (answer.Refused r)) end o
    → (end ≡ length (verdict_line v)) × (o ≡ sets out 0 (verdict_line v)) × (end ≤ 30)
unfolding verdict_line
not-checked-by v r end out o e p =
    let q = at_front out o end (line_of (answer.Refused r)) p in
    rw e (q.0, q.1, omega (arith, line-length (answer.Refused r)))
