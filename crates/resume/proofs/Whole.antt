-- The program writes `written_for` of its input, in whatever reads that comes, of what its two calls are proved to put.
-- Assumes nothing.
use mathlib.Core.Path.{◌≡◌, sym, ◌∙◌, ap}
use mathlib.Core.List.{List, [], ◌++◌}
use Prim.Native.Nat.{ℕ, ◌<◌}
use native.Mathlib.Omega.{arith}
use lib.ListN.{length, take}
use Rattle.std.proofs.Common.{Ok, Err}
use Rattle.std.specs.Prelude.{IsSome}
use Rattle.rules.specs.Runs.{Bench}
use Rattle.script_turns.specs.Program.{input_of}
use Rattle.script_turns.specs.Script.{lines_to, records_in, ending}
use Rattle.script_streams.specs.Reading.{Served, served_put}
use Rattle.script_streams.proofs.reading.Whole.{served-puts, served-writes}
use Rattle.save_opening.specs.Opened.{Opened}
use Rattle.save_opening.specs.Opening.{wanted_bytes}
use Rattle.save_opening.proofs.Whole as opening
use Rattle.resume.specs.Asked.{resumed, written_for}

-- THE WHOLE PROGRAM, of the contracts of `open` and of `reading::serve`, which follows where there is a bench: what they put at the front of the output, one
-- after another, is `written_for` of all bytes that came, whatever the reads were. The buffers are of 65,536 bytes.
module _ (out o : List ℕ) (room : length out ≡ 65536) where
  -- WHERE NOTHING FOLLOWS: the input ends in the length or in the form, or the length is too large or the form refused, whatever is behind it
  pub writes-first : (end : ℕ) (p : Opened out (Err end) o) (more : List ℕ) → (length p.head < 4 → more ≡ []) × (length p.form < wanted_bytes p.head → more ≡ [])
      → take end o ≡ written_for (p.head ++ (p.form ++ more))
  unfolding written_for resumed
  writes-first end p more over = opening.writes-first out o end p (omega arith) resumed (λ more a. rw a) more over

  -- WHERE RECORDS FOLLOW, and no write failed: nothing has been put, and then
  pub writes-all : (x : Bench) (p : Opened out (Ok x) o) (y : Bench) (written : List ℕ) (s : Served x o y written) → IsSome s.end
      → served_put x o y written s ≡ written_for (p.head ++ (p.form ++ input_of s.ended.reached.reads))
  unfolding written_for resumed
  writes-all x p y written s t =
      let more : List ℕ = input_of s.ended.reached.reads in
      let q = opening.goes-restored out o x p in
      served-puts x o y written s t ∙ served-writes x o y written s (ap length q.kept ∙ room)
      ∙ ap (λ (x : Bench). lines_to x more (records_in more) ++ ending more) q.bench
      ∙ sym (opening.by_form resumed p.head p.form more q.came.four q.came.short q.came.whole ∙ rw q.good)
