-- The program writes `script_of` of its input, in whatever reads that comes: of what its steps are proved to do.
-- Assumes nothing.
use mathlib.Core.Path.{◌≡◌, sym, ◌∙◌, ap}
use mathlib.Core.Bool.{false, false≢true}
use mathlib.Core.List.{List, [], ◌++◌, append-nil}
use Prim.Native.Nat.{ℕ, ◌<◌}
use native.Mathlib.Omega.{arith}
use borrow.Author.Tests.{ltb-true, ltb-false}
use lib.Dec.{ltb}
use lib.ListN.{length, take}
use Rattle.std.proofs.Common.{Result, Ok, Err}
use Rattle.std.specs.List.{list_all}
use Rattle.std.specs.Prelude.{IsSome}
use Rattle.proof_lists.specs.Tests.{by-test}
use Rattle.rules.specs.Refusals.{good_pair}
use Rattle.rules.specs.Runs.{Bench}
use Rattle.script_text.specs.Records.{pairs_of}
use Rattle.script_turns.specs.Frame.{cut_setup, goes_on}
use Rattle.script_turns.specs.Program.{Read, input_of, Fits, turns_write, followed, program_writes}
use Rattle.script_turns.specs.Script.{script_of}
use Rattle.script_turns.proofs.frame.Onward.{begin-goes, begin-stops}
use Rattle.script_turns.proofs.turns.Whole.{script-bad, writes-cut, writes-whole}
use Rattle.script_streams.specs.Opened.{Opened}
use Rattle.script_streams.specs.Reading.{Served, served_put}
use Rattle.script_streams.proofs.reading.Whole.{served-puts}

-- the beginning, and any turns behind it, as the composition of the steps has them
opened : (out o buf : List ℕ) (r : Result Bench ℕ) (p : Opened out r o) (rs : List Read)
    → followed r o (λ x. turns_write x buf 0 o rs) ≡ program_writes p.head rs buf out
unfolding program_writes
opened out o buf r p rs = sym (ap (λ (b : Result Bench ℕ × List ℕ). followed b.0 b.1 (λ x. turns_write x buf 0 b.1 rs)) p.begun)

-- THE WHOLE PROGRAM, of the contracts of `opening::begin` and of `reading::serve`, which follows where there is a bench: what they put at the front of
-- the output, one after another, is `script_of` of all bytes that came, whatever the reads were. The buffers are of 65,536 bytes.
module _ (out o : List ℕ) (room : length out ≡ 65536) where
  -- WHERE NOTHING FOLLOWS: fewer than sixteen bytes came, which is all of the input, or the setup is bad, whatever is behind it
  pub writes-first : (end : ℕ) (p : Opened out (Err end) o) (more : List ℕ) → (length p.head < 16 → more ≡ []) → take end o ≡ script_of (p.head ++ more)
  unfolding Fits input_of goes_on cut_setup followed
  writes-first end p more over =
      let head : List ℕ = p.head in
      let w : take end o ≡ program_writes head [] [] out = opened out o [] (Err end) p [] in
      by-test (ltb (length head) 16)
      (λ c.
      let l : length head < 16 = ltb-true (length head) 16 c in
      w ∙ writes-cut head [] out [] l (omega arith) ∙ sym (ap script_of (ap (head ++◌) (over l) ∙ append-nil head)))
      (λ c.
      let l : length head ≡ 16 = let h = ltb-false (length head) 16 c in omega (arith, h, p.fits) in
      let g : list_all good_pair (pairs_of head) ≡ false = rw c at (begin-stops head out o end p.begun).0 in
      w ∙ writes-whole head [] out [] l (omega arith) tt ∙ script-bad head [] l g ∙ sym (script-bad head more l g))

  -- WHERE RECORDS FOLLOW, and no write failed: nothing has been put, and then
  pub writes-all : (x : Bench) (p : Opened out (Ok x) o) (y : Bench) (written : List ℕ) (s : Served x o y written) → IsSome s.end
      → served_put x o y written s ≡ script_of (p.head ++ input_of s.ended.reached.reads)
  unfolding goes_on cut_setup followed
  writes-all x p y written s t =
      let head : List ℕ = p.head in
      let rs : List Read = s.ended.reached.reads in
      let l : length head ≡ 16 =
      by-test (ltb (length head) 16) (λ c. absurd (false≢true (rw c at (begin-goes head out o x p.begun).0))) (λ c. let h = ltb-false (length head) 16 c in omega (arith, h, p.fits)) in
      served-puts x o y written s t
      ∙ opened out o s.ended.buf (Ok x) p rs
      ∙ writes-whole head s.ended.buf out rs l (omega arith) (rw room s.ended.fits)
