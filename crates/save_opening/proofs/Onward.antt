-- What whoever goes on from the beginning needs of it: what is to be written lies in the output.
-- Assumes nothing.
use mathlib.Core.Path.{◌≡◌}
use mathlib.Core.List.{List}
use Prim.Native.Nat.{ℕ, ◌≤◌}
use native.Mathlib.Omega.{arith}
use lib.Dec.{ltb, eqb}
use lib.ListN.{length}
use Rattle.std.proofs.Common.{Result, Ok, Err}
use Rattle.proof_lists.specs.Tests.{cond_cases}
use Rattle.rules.specs.declared.Answer.{Answer}
use Rattle.rules.specs.declared.Answer.TheVariants as answer
use Rattle.rules.specs.Runs.{Bench}
use Rattle.rules.specs.Refusals.{empty_bus}
use Rattle.script_text.specs.Letters.{refusal_line}
use Rattle.script_text.proofs.letters.Laws.{line-length}
use Rattle.script_turns.specs.Frame.{starting_memory}
use Rattle.save_rules.specs.Reading.{restore_of}
use Rattle.save_opening.specs.Opening.{form_bytes, too_long, stopped_by, begun_by, begin_of}

Fits : ℕ → Result Bench ℕ → Type 0
Fits room (Ok x) = Unit {0}
Fits room (Err end) = end ≤ room

line-fits : (a : Answer) → length (refusal_line a) ≤ 4
unfolding refusal_line
line-fits answer.Nothing = omega arith
line-fits answer.Ack = omega arith
line-fits answer.Nack = omega arith
line-fits (answer.Data b) = omega arith
line-fits (answer.Refused r) = line-length (answer.Refused r)

pub begin-onward : (head form out o : List ℕ) (end : ℕ) → begin_of head form out ≡ (Err end, o) → 6 ≤ length out → end ≤ length out
unfolding begin_of stopped_by begun_by Fits
begin-onward head form out o end e h =
    let P : Result Bench ℕ × List ℕ → Type 0 = λ z. Fits (length out) z.0 in
    let a : Answer = (restore_of empty_bus starting_memory form).0.answer in
    let k : P (begin_of head form out) =
    cond_cases P (ltb (length head) 4) (λ _. omega arith)
    (λ _. cond_cases P (too_long head) (λ _. omega arith)
    (λ _. cond_cases P (ltb (length form) (form_bytes head)) (λ _. omega arith)
    (λ _. cond_cases (Fits (length out)) (eqb (length (refusal_line a)) 0) (λ _. tt) (λ _. omega (arith, line-fits a))))) in
    rw e at k
