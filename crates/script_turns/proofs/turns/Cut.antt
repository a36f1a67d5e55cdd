-- A run may be fed in pieces, also where a record is cut between two of them: what is left of one piece goes in front of the next.
-- Assumes nothing.
use Prim.Native.Nat.{ℕ, zero, suc, ◌+◌, ◌*◌, ◌/◌, ◌%◌, ◌≤◌}
use native.Mathlib.Nat.{add-zero, add-suc}
use native.Mathlib.Omega.{arith}
use mathlib.Core.Path.{◌≡◌, refl, sym, ◌∙◌, ap, ap₂}
use mathlib.Core.List.{List, ◌++◌, append-nil, append_assoc}
use lib.ListN.{length, drop, length-append, length-drop}
use lib.Seq.{drop-append-le}
use Rattle.rules.specs.Runs.{Bench, next, answered}
use Rattle.script_text.specs.Records.{record_at}
use Rattle.script_text.proofs.records.Laws.{record-first, record-later}
use Rattle.script_text.specs.Letters.{line_of}
use Rattle.script_turns.specs.Script.{records_in, left_of, bench_to, lines_to, ending}

-- how many records two pieces have
count_cut : (p q : List ℕ) → length (p ++ q) / 4 ≡ length p / 4 + length (drop (4 * (length p / 4)) p ++ q) / 4
count_cut p q = rw (length-append p q, length-append (drop (4 * (length p / 4)) p) q, length-drop (4 * (length p / 4)) p) (omega arith)

module _ (x : Bench) where
  -- the lines of a first piece do not depend on what follows
  bench-first : (p q : List ℕ) (n : ℕ) → 4 * n ≤ length p → bench_to x (p ++ q) n ≡ bench_to x p n
  unfolding bench_to
  bench-first p q zero h = refl
  bench-first p q (suc n) h = ap₂ next (record-first p q (4 * n) (omega arith)) (bench-first p q n (omega arith))

  lines-first : (p q : List ℕ) (n : ℕ) → 4 * n ≤ length p → lines_to x (p ++ q) n ≡ lines_to x p n
  unfolding lines_to
  lines-first p q zero h = refl
  lines-first p q (suc n) h =
      ap₂ ◌++◌ (lines-first p q n (omega arith)) (ap line_of (ap₂ answered (record-first p q (4 * n) (omega arith)) (bench-first p q n (omega arith))))

  -- n records after m
  bench-later : (p : List ℕ) (m n : ℕ) → bench_to x p (m + n) ≡ bench_to (bench_to x p m) (drop (4 * m) p) n
  unfolding bench_to
  bench-later p m zero = ap (bench_to x p) (add-zero m)
  bench-later p m (suc n) =
      ap (bench_to x p) (add-suc m n)
      ∙ ap₂ next (ap (record_at p) (omega arith) ∙ sym (record-later p (4 * m) (4 * n))) (bench-later p m n)

  lines-later : (p : List ℕ) (m n : ℕ) → lines_to x p (m + n) ≡ lines_to x p m ++ lines_to (bench_to x p m) (drop (4 * m) p) n
  unfolding lines_to
  lines-later p m zero = ap (lines_to x p) (add-zero m) ∙ sym (append-nil (lines_to x p m))
  lines-later p m (suc n) =
      ap (lines_to x p) (add-suc m n)
      ∙ ap₂ ◌++◌ (lines-later p m n) (ap line_of (ap₂ answered (ap (record_at p) (omega arith) ∙ sym (record-later p (4 * m) (4 * n))) (bench-later p m n)))
      ∙ append_assoc (lines_to x p m) (lines_to (bench_to x p m) (drop (4 * m) p) n) _

  -- all records of two pieces: those of the first, and then those of what it left with the second
  pub bench-cut : (p q : List ℕ) → bench_to x (p ++ q) (records_in (p ++ q))
      ≡ bench_to (bench_to x p (records_in p)) (left_of p ++ q) (records_in (left_of p ++ q))
  unfolding records_in left_of
  bench-cut p q =
      let m : ℕ = length p / 4 in
      let h : 4 * m ≤ length p = omega arith in
      let n : ℕ = length (drop (4 * m) p ++ q) / 4 in
      ap (bench_to x (p ++ q)) (count_cut p q) ∙ bench-later (p ++ q) m n
      ∙ ap₂ (λ y bs. bench_to y bs n) (bench-first p q m h) (drop-append-le (4 * m) p q h)

  pub lines_cut : (p q : List ℕ) → lines_to x (p ++ q) (records_in (p ++ q))
      ≡ lines_to x p (records_in p) ++ lines_to (bench_to x p (records_in p)) (left_of p ++ q) (records_in (left_of p ++ q))
  unfolding records_in left_of
  lines_cut p q =
      let m : ℕ = length p / 4 in
      let h : 4 * m ≤ length p = omega arith in
      let n : ℕ = length (drop (4 * m) p ++ q) / 4 in
      ap (lines_to x (p ++ q)) (count_cut p q) ∙ lines-later (p ++ q) m n
      ∙ ap₂ ◌++◌ (lines-first p q m h) (ap₂ (λ y bs. lines_to y bs n) (bench-first p q m h) (drop-append-le (4 * m) p q h))

-- and the input ends in the middle of a record in both or in neither
pub ending-cut : (p q : List ℕ) → ending (p ++ q) ≡ ending (left_of p ++ q)
unfolding ending left_of records_in
ending-cut p q =
    let m : ℕ = length p / 4 in
    let e : length (p ++ q) % 4 ≡ length (drop (4 * m) p ++ q) % 4 = rw (length-append p q, length-append (drop (4 * m) p) q, length-drop (4 * m) p) (omega arith) in
    rw e
