-- The program writes `watch_of` of its input: of what its steps are proved to do.
-- Assumes nothing.
use mathlib.Core.Path.{◌≡◌, sym, ◌∙◌, ap, ap₂}
use mathlib.Core.Bool.{Bool, true, false, false≢true}
use mathlib.Core.List.{List, [], ◌++◌, append-nil}
use Prim.Native.Nat.{ℕ, ◌<◌}
use native.Mathlib.Omega.{arith}
use borrow.Author.Tests.{lt-ltb, le-ltb, ltb-true, ltb-false}
use lib.Dec.{ltb}
use lib.ListN.{length, take, drop, length-append}
use lib.Seq.{drop-append_seam}
use Rattle.std.proofs.Common.{Ok, Err}
use Rattle.std.specs.List.{list_all}
use Rattle.proof_lists.specs.Tests.{by-test}
use Rattle.rules.specs.Refusals.{good_pair}
use Rattle.rules.specs.Runs.{Bench}
use Rattle.script_text.specs.Letters.{short_line}
use Rattle.script_text.specs.Records.{pairs_of}
use Rattle.script_text.proofs.records.Laws.{pairs-of}
use Rattle.script_turns.specs.Frame.{bad_setup_line, cut_setup, first_line, goes_on}
use Rattle.script_turns.specs.Script.{begun_at}
use Rattle.script_turns.proofs.frame.Onward.{begin-goes, begin-stops}
use Rattle.script_turns.proofs.frame.Laws.{first-length, written}
use Rattle.script_streams.specs.Opened.{Opened}
use Rattle.watch_streams.specs.Texts.{watched_text}
use Rattle.watch_streams.specs.Reading.{input_of, Exhausted, Watched, watched_put}
use Rattle.watch_streams.proofs.Whole.{watched-writes}
use Rattle.watch.specs.Watch.{watch_of}

-- a setup that is cut, a bad one, and a good one with anything behind it
of_cut : (bs : List ℕ) → length bs < 16 → watch_of bs ≡ short_line
unfolding watch_of
of_cut bs h = rw (lt-ltb (length bs) 16 h)

module _ (head more : List ℕ) (l : length head ≡ 16) where
  whole : ltb (length (head ++ more)) 16 ≡ false
  whole = le-ltb (length (head ++ more)) 16 (omega (arith, length-append head more))

  behind : drop 16 (head ++ more) ≡ more
  behind = ap (λ i. drop i (head ++ more)) (sym l) ∙ drop-append_seam head more

  of-bad : list_all good_pair (pairs_of head) ≡ false → watch_of (head ++ more) ≡ bad_setup_line
  unfolding watch_of
  of-bad g = rw (whole, pairs-of head more l, g)

  of-good : list_all good_pair (pairs_of head) ≡ true → watch_of (head ++ more) ≡ watched_text (begun_at (pairs_of head)) more
  unfolding watch_of
  of-good g = rw (whole, pairs-of head more l, g, behind)

-- THE WHOLE PROGRAM, of the contracts of `opening::begin` and of `watch_streams::watch`, which follows where there is a bench: what they put at the
-- front of the output, one after another, is `watch_of` of all bytes that came. The output is of 65,536 bytes.
module _ (out o : List ℕ) (room : length out ≡ 65536) where
  -- WHERE NOTHING FOLLOWS: fewer than sixteen bytes came, which is all of the input, or the setup is bad, whatever is behind it
  pub writes-first : (end : ℕ) (p : Opened out (Err end) o) (more : List ℕ) → (length p.head < 16 → more ≡ []) → take end o ≡ watch_of (p.head ++ more)
  unfolding goes_on cut_setup first_line
  writes-first end p more over =
      let head : List ℕ = p.head in
      let s = begin-stops head out o end p.begun in
      let f : take end o ≡ first_line head = ap₂ take s.1 s.2 ∙ written out (first_line head) (omega (arith, first-length head)) in
      by-test (ltb (length head) 16)
      (λ c.
      let l : length head < 16 = ltb-true (length head) 16 c in
      f ∙ rw c (sym (ap watch_of (ap (head ++◌) (over l) ∙ append-nil head) ∙ of_cut head l)))
      (λ c.
      let l : length head ≡ 16 = let h = ltb-false (length head) 16 c in omega (arith, h, p.fits) in
      let g : list_all good_pair (pairs_of head) ≡ false = rw c at s.0 in
      f ∙ rw (c, g) (sym (of-bad head more l g)))

  -- WHERE RECORDS FOLLOW, and the reads came to the input's end: nothing has been put, and then
  pub writes-all : (x : Bench) (p : Opened out (Ok x) o) (told : Bool) (y : Bench) (wrote : List ℕ) (w : Watched x o told y wrote) → Exhausted w.reads
      → watched_put x o told y wrote w ≡ watch_of (p.head ++ input_of w.reads)
  unfolding goes_on cut_setup
  writes-all x p told y wrote w e =
      let head : List ℕ = p.head in
      let s = begin-goes head out o x p.begun in
      let c : ltb (length head) 16 ≡ false = by-test (ltb (length head) 16) (λ c. absurd (false≢true (rw c at s.0))) (λ c. c) in
      let l : length head ≡ 16 = let h = ltb-false (length head) 16 c in omega (arith, h, p.fits) in
      let g : list_all good_pair (pairs_of head) ≡ true = rw c at s.0 in
      watched-writes x o told y wrote w e
      ∙ ap (λ (z : Bench). watched_text z (input_of w.reads)) s.1
      ∙ sym (of-good head (input_of w.reads) l g)
