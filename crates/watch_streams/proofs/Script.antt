-- Each record's line is the script's, and the slots' lines behind it are of the bench before that record and behind it.
-- Assumes nothing.
use mathlib.Core.Path.{◌≡◌, refl, sym, ◌∙◌, ap, ap₂}
use mathlib.Core.List.{List, ◌++◌, append-nil, append_assoc}
use Prim.Native.Nat.{ℕ, zero, suc, ◌*◌}
use native.Mathlib.Omega.{arith}
use lib.ListN.{drop}
use Rattle.rules.specs.Runs.{Bench, next, answered}
use Rattle.script_text.specs.Letters.{line_of}
use Rattle.script_text.specs.Records.{record_at}
use Rattle.script_text.proofs.records.Laws.{record-later}
use Rattle.script_turns.specs.Script.{bench_to}
use Rattle.watch_text.specs.Lines.{change_lines}
use Rattle.watch_streams.specs.Texts.{record_text, record_texts}

-- the record at a place, behind the first
later : (bs : List ℕ) (n : ℕ) → record_at (drop 4 bs) (4 * n) ≡ record_at bs (4 * suc n)
later bs n = record-later bs 4 (4 * n) ∙ ap (record_at bs) (omega arith)

-- the bench after one record more, from the front
bench-cons : (x : Bench) (bs : List ℕ) (n : ℕ) → bench_to (next (record_at bs 0) x) (drop 4 bs) n ≡ bench_to x bs (suc n)
unfolding bench_to
bench-cons x bs zero = refl
bench-cons x bs (suc n) = ap₂ next (later bs n) (bench-cons x bs n)

-- what is written of the record in place n of a run: the script's line of it (`lines_to`), and the slots that it changed
pub told : Bench → List ℕ → ℕ → List ℕ
told x bs n =
    line_of (answered (record_at bs (4 * n)) (bench_to x bs n)) ++ change_lines (bench_to x bs n).bus.slots (bench_to x bs (suc n)).bus.slots

pub texts-step : (x : Bench) (bs : List ℕ) (n : ℕ) → record_texts x bs (suc n) ≡ record_texts x bs n ++ told x bs n
unfolding record_texts record_text bench_to told
texts-step x bs zero = append-nil (record_text (record_at bs 0) x)
texts-step x bs (suc n) =
    let y : Bench = next (record_at bs 0) x in
    let t : told y (drop 4 bs) n ≡ told x bs (suc n) =
    ap₂ ◌++◌ (ap line_of (ap₂ answered (later bs n) (bench-cons x bs n)))
    (ap₂ (λ (a b : Bench). change_lines a.bus.slots b.bus.slots) (bench-cons x bs n) (bench-cons x bs (suc n))) in
    ap (record_text (record_at bs 0) x ++◌) (texts-step y (drop 4 bs) n ∙ ap (record_texts y (drop 4 bs) n ++◌) t)
    ∙ sym (append_assoc (record_text (record_at bs 0) x) (record_texts y (drop 4 bs) n) (told x bs (suc n)))
