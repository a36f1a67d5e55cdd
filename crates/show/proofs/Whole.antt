-- The program writes `written_for` of its input, in whatever reads that comes, of what its two calls are proved to put.
-- Assumes nothing.
use mathlib.Core.Path.{◌≡◌, sym, ◌∙◌, ap}
use mathlib.Core.Bool.{Bool}
use mathlib.Core.List.{List, [], ◌++◌}
use Prim.Native.Nat.{ℕ, ◌<◌}
use native.Mathlib.Omega.{arith}
use lib.ListN.{length, take}
use Rattle.std.proofs.Common.{Ok, Err}
use Rattle.rules.specs.Runs.{Bench}
use Rattle.save_opening.specs.Opened.{Opened}
use Rattle.save_opening.specs.Opening.{wanted_bytes}
use Rattle.save_opening.proofs.Whole as opening
use Rattle.watch_streams.specs.Texts.{watched_text}
use Rattle.watch_streams.specs.Reading.{input_of, Exhausted, Watched, watched_put}
use Rattle.watch_streams.proofs.Whole.{watched-writes}
use Rattle.show.specs.Asked.{shown, written_for}

-- THE WHOLE PROGRAM, of the contracts of `open` and of `watch_streams::watch`, which follows where there is a bench: what they put at the front of the output,
-- one after another, is `written_for` of all bytes that came. The output is of 65,536 bytes.
module _ (out o : List ℕ) (room : length out ≡ 65536) where
  -- WHERE NOTHING FOLLOWS: the input ends in the length or in the form, or the length is too large or the form refused, whatever is behind it
  pub writes-first : (end : ℕ) (p : Opened out (Err end) o) (more : List ℕ) → (length p.head < 4 → more ≡ []) × (length p.form < wanted_bytes p.head → more ≡ [])
      → take end o ≡ written_for (p.head ++ (p.form ++ more))
  unfolding written_for shown
  writes-first end p more over = opening.writes-first out o end p (omega arith) shown (λ more a. rw a) more over

  -- WHERE RECORDS FOLLOW, and the reads came to the input's end: nothing has been put, and then
  pub writes-all : (x : Bench) (p : Opened out (Ok x) o) (told : Bool) (y : Bench) (wrote : List ℕ) (w : Watched x o told y wrote) → Exhausted w.reads
      → watched_put x o told y wrote w ≡ written_for (p.head ++ (p.form ++ input_of w.reads))
  unfolding written_for shown
  writes-all x p told y wrote w e =
      let more : List ℕ = input_of w.reads in
      let s = opening.goes-restored out o x p in
      watched-writes x o told y wrote w e
      ∙ ap (λ (y : Bench). watched_text y more) s.bench
      ∙ sym (opening.by_form shown p.head p.form more s.came.four s.came.short s.came.whole ∙ rw s.good)
