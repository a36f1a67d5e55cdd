-- The answer, by what each branch of the code gives, and that it lies in the output.
-- Assumes nothing.
use mathlib.Core.Path.{◌≡◌, sym, ap}
use mathlib.Core.Bool.{not}
use mathlib.Core.List.{List}
use Prim.Native.Nat.{ℕ, ◌≤◌}
use native.Mathlib.Omega.{arith}
use borrow.Author.Tests.{eq-eqb, ne_eqb, ltb-false}
use lib.Dec.{eqb, ltb}
use lib.ListN.{length}
use lib.Seq.{sets}
use Rattle.std.proofs.Common.{Result, Ok, Err}
use Rattle.proof_lists.specs.Tests.{cond_cases}
use Rattle.rules.specs.declared.Answer.TheVariants as answer
use Rattle.rules.specs.declared.Bus.{Bus}
use Rattle.rules.specs.declared.Refusal.{Refusal}
use Rattle.rules.specs.declared.Refusal.TheVariants.{MemoryLength, WrongState, Busy, TooShort}
use Rattle.rules.specs.Refusals.{wrong_length, in_range}
use Rattle.rules.specs.Runs.{Bench}
use Rattle.script_text.specs.Letters.{line_of, short_line}
use Rattle.script_text.proofs.letters.Laws.{Put, at_front, line-length}
use Rattle.save_rules.specs.Form.{form_of}
use Rattle.save_rules.specs.Saving.{all_quiet, save_of}
use Rattle.save.specs.Asked.{saved_answer, answer_of, end_of}

-- a record that is cut, a form, and a refusal
module _ (x : Bench) (left : ℕ) (out o : List ℕ) where
  pub answer-short : (end : ℕ) → (left ≡ 0 → ⊥) → (end ≡ 6) × (o ≡ sets out 0 short_line) → answer_of x left out ≡ (Err end, o)
  unfolding answer_of
  answer-short end h p = rw (ne_eqb left 0 h, p.0, p.1)

  pub answer-form : (n : ℕ) (s : Result ℕ Refusal) → left ≡ 0 → save_of x.bus x.memory out ≡ (s, o) → s ≡ Ok n → answer_of x left out ≡ (Ok n, o)
  unfolding answer_of saved_answer
  answer-form n s h e f = rw (eq-eqb left 0 h, e, f)

  pub answer-refused : (r : Refusal) (s : Result ℕ Refusal) (kept : List ℕ) (end : ℕ) → left ≡ 0 → save_of x.bus x.memory out ≡ (s, kept) → s ≡ Err r
      → Put kept 0 (line_of (answer.Refused r)) end o → answer_of x left out ≡ (Err end, o)
  unfolding answer_of saved_answer
  answer-refused r s kept end h e f p =
      let q = at_front kept o end (line_of (answer.Refused r)) p in
      rw (eq-eqb left 0 h, e, f, q.0, q.1)

-- the answer lies in the output
abbrev Lies : ℕ → Result ℕ ℕ × List ℕ → Type 0
Lies room a = end_of a.0 ≤ room

saved-lies : (b : Bus) (m out : List ℕ) → 4 ≤ length out → Lies (length out) (saved_answer (save_of b m out).0 (save_of b m out).1)
unfolding save_of saved_answer
saved-lies b m out h =
    let P : Result ℕ Refusal × List ℕ → Type 0 = λ s. Lies (length out) (saved_answer s.0 s.1) in
    cond_cases P (wrong_length m) (λ _. omega (arith, line-length (answer.Refused MemoryLength)))
    (λ _. cond_cases P (not (in_range b)) (λ _. omega (arith, line-length (answer.Refused WrongState)))
    (λ _. cond_cases P (not (all_quiet b)) (λ _. omega (arith, line-length (answer.Refused Busy)))
    (λ _. cond_cases P (ltb (length out) (length (form_of b m))) (λ _. omega (arith, line-length (answer.Refused TooShort)))
    (λ f. ltb-false (length out) (length (form_of b m)) f))))

pub answer-onward : (x : Bench) (left : ℕ) (out o : List ℕ) (r : Result ℕ ℕ) → answer_of x left out ≡ (r, o) → 6 ≤ length out → end_of r ≤ length out
unfolding answer_of
answer-onward x left out o r e h =
    let k : Lies (length out) (answer_of x left out) =
    cond_cases (Lies (length out)) (eqb left 0) (λ _. saved-lies x.bus x.memory out (omega arith)) (λ _. omega arith) in
    rw (sym (ap (λ (z : Result ℕ ℕ × List ℕ). end_of z.0) e)) k
