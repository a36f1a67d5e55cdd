-- What is put from a bench on, read after read, is what the definition has for all that came.
-- Assumes nothing.
use mathlib.Core.Path.{◌≡◌, sym, ◌∙◌, ap, ap₂}
use mathlib.Core.Bool.{Bool, false}
use mathlib.Core.List.{List, [], ◌∷◌, ◌++◌, append-nil, append_assoc}
use Prim.Native.Nat.{ℕ, suc, ◌+◌, ◌/◌, ◌%◌, ◌<◌}
use native.Mathlib.Omega.{arith}
use borrow.Author.Tests.{le-ltb, ltb-true}
use lib.ListN.{length, drop, length-append}
use lib.Seq.{drop-append_seam}
use Rattle.rules.specs.Runs.{Bench, next}
use Rattle.script_text.specs.Records.{record_at}
use Rattle.script_text.proofs.records.Laws.{record-first}
use Rattle.script_turns.specs.Frame.{last_line}
use Rattle.script_turns.specs.Script.{records_in, ending}
use Rattle.watch_text.specs.Lines.{bench_lines}
use Rattle.watch_streams.specs.Texts.{record_text, record_texts, bench_text, watched_text}
use Rattle.watch_streams.specs.Steps.{cut, read_text, read_next}
use Rattle.watch_streams.specs.Reading.{text_put, input_of, Exhausted, Watched, watched_put}

-- a whole record in front of others
text-cons : (x : Bench) (c bs : List ℕ) → length c ≡ 4
    → bench_text x (c ++ bs) ≡ record_text (record_at c 0) x ++ bench_text (next (record_at c 0) x) bs
unfolding bench_text record_texts records_in ending
text-cons x c bs e =
    let n : length (c ++ bs) ≡ 4 + length bs = length-append c bs ∙ ap (◌+ length bs) e in
    let k : length (c ++ bs) / 4 ≡ suc (length bs / 4) = rw n (omega arith) in
    let m : length (c ++ bs) % 4 ≡ length bs % 4 = rw n (omega arith) in
    let r : record_at (c ++ bs) 0 ≡ record_at c 0 = record-first c bs 0 (omega arith) in
    let d : drop 4 (c ++ bs) ≡ bs = ap (λ i. drop i (c ++ bs)) (sym e) ∙ drop-append_seam c bs in
    let t : record_texts x (c ++ bs) (length (c ++ bs) / 4) ≡ record_text (record_at c 0) x ++ record_texts (next (record_at c 0) x) bs (length bs / 4) =
    ap (record_texts x (c ++ bs)) k ∙ ap₂ (λ v l. record_text v x ++ record_texts (next v x) l (length bs / 4)) r d in
    ap₂ (λ (l : List ℕ) i. l ++ last_line i) t m
    ∙ append_assoc (record_text (record_at c 0) x) (record_texts (next (record_at c 0) x) bs (length bs / 4)) (last_line (length bs % 4))

-- less than one
text-cut : (x : Bench) (c : List ℕ) → length c < 4 → bench_text x c ≡ last_line (length c)
unfolding bench_text record_texts records_in ending
text-cut x c h =
    let k : length c / 4 ≡ 0 = omega arith in
    let m : length c % 4 ≡ length c = omega arith in
    rw (k, m)

-- so read after read, to one that brought less, is what the definition has for all that came
reads-put : (x : Bench) (cs : List (List ℕ)) → Exhausted cs → text_put x cs ≡ bench_text x (input_of cs)
unfolding Exhausted text_put input_of read_text read_next
reads-put x [] e = absurd e
reads-put x (c ∷ []) e = rw e (append-nil (last_line (length c)) ∙ sym (ap (bench_text x) (append-nil c) ∙ text-cut x c (ltb-true (length c) 4 e)))
reads-put x (c ∷ d ∷ cs) e =
    let f : cut c ≡ false = le-ltb (length c) 4 (omega (arith, e.0)) in
    rw f (ap (record_text (record_at c 0) x ++◌) (reads-put (next (record_at c 0) x) (d ∷ cs) e.1) ∙ sym (text-cons x c (input_of (d ∷ cs)) e.0))

-- WHAT `watch` PUTS AT THE FRONT OF THE OUTPUT, of its contract, one after another, where the reads came to the input's end
pub watched-writes : (x : Bench) (out : List ℕ) (told : Bool) (y : Bench) (wrote : List ℕ) (w : Watched x out told y wrote) → Exhausted w.reads
    → watched_put x out told y wrote w ≡ watched_text x (input_of w.reads)
unfolding watched_put watched_text
watched-writes x out told y wrote w e = ap (bench_lines x.bus ++◌) (reads-put x w.reads e)
