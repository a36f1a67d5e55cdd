-- Laws for the script's lines: what fits, and lines put one after another.
-- Assumes nothing.
use mathlib.Core.Path.{◌≡◌, refl, ◌∙◌}
use mathlib.Core.List.{List, ◌++◌}
use Prim.Native.Nat.{ℕ, zero, suc, ◌+◌, ◌*◌, ◌/◌, ◌%◌, ◌≤◌}
use native.Mathlib.Numerals.{add-one}
use native.Mathlib.Omega.{arith}
use lib.ListN.{length, length-append, length-drop}
use lib.Seq.{sets}
use Rattle.rules.specs.Runs.{Bench, next, answered}
use Rattle.script_text.specs.Records.{record_at}
use Rattle.script_text.specs.Letters.{line_of}
use Rattle.script_turns.specs.Script.{bench_to, lines_to, records_in, left_of}
use Rattle.script_text.proofs.letters.Laws.{line-length}

-- one record more
pub bench-step : (x : Bench) (bs : List ℕ) (k : ℕ) → bench_to x bs (k + 1) ≡ next (record_at bs (4 * k)) (bench_to x bs k)
unfolding bench_to
bench-step x bs k = rw add-one

pub lines_step : (x : Bench) (bs : List ℕ) (k : ℕ) → lines_to x bs (k + 1) ≡ lines_to x bs k ++ line_of (answered (record_at bs (4 * k)) (bench_to x bs k))
unfolding lines_to
lines_step x bs k = rw add-one

pub lines_none : (x : Bench) (bs out : List ℕ) → out ≡ sets out 0 (lines_to x bs 0)
unfolding lines_to
lines_none x bs out = refl

pub lines-length : (x : Bench) (bs : List ℕ) (n : ℕ) → length (lines_to x bs n) ≤ 4 * n
unfolding lines_to
lines-length x bs zero = omega arith
lines-length x bs (suc n) =
    let l : List ℕ = line_of (answered (record_at bs (4 * n)) (bench_to x bs n)) in
    rw (length-append (lines_to x bs n) l) (omega (arith, lines-length x bs n, line-length (answered (record_at bs (4 * n)) (bench_to x bs n))))

-- what is left of some bytes
pub left-length : (bs : List ℕ) → length (left_of bs) ≡ length bs % 4
unfolding left_of records_in
left-length bs = length-drop (4 * (length bs / 4)) bs ∙ omega arith
