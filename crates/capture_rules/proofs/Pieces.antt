-- A capture's bytes in pieces of whole records.
-- Assumes nothing.
use Prim.Native.Nat.{ℕ, zero, suc, ◌+◌, ◌*◌, ◌/◌, ◌≤◌, ◌<◌}
use native.Mathlib.Nat.{add-zero, add-suc}
use native.Mathlib.Omega.{arith}
use mathlib.Core.Path.{◌≡◌, refl, sym, ◌∙◌, ap, ap₂}
use mathlib.Core.List.{List, [], ◌∷◌, ◌++◌, append-nil, append_assoc}
use lib.ListN.{length, get_or, length-append, get_or-append}
use lib.Seq.{get_or-append-add}
use Rattle.rules.specs.Runs.{Bench}
use Rattle.script_text.specs.Records.{record_at}
use Rattle.script_text.proofs.records.Laws.{same-record}
use Rattle.capture_rules.specs.Capture.{captured_at, captured_to, captured_in, left_over, verdict_from, bench_from}
use Rattle.capture_rules.specs.Agreement.{onward}
use Rattle.capture_rules.proofs.Cut.{verdict-cut}

pub captured-length : (bs : List ℕ) (n : ℕ) → length (captured_to bs n) ≡ n
unfolding captured_to
captured-length bs zero = refl
captured-length bs (suc n) = length-append (captured_to bs n) (captured_at bs (6 * n) ∷ []) ∙ omega (arith, captured-length bs n)

-- a record is its six bytes
same-captured : (p q : List ℕ) (i j : ℕ) → ((k : ℕ) → k < 6 → get_or p (i + k) 0 ≡ get_or q (j + k) 0) → captured_at p i ≡ captured_at q j
unfolding captured_at
same-captured p q i j h =
    let e : record_at p i ≡ record_at q j = same-record p q i j (λ k l. h k (omega arith)) in
    λ t. record { event = e t; seen = record { code = h 4 (omega arith) t; byte = h 5 (omega arith) t } }

-- records of a first piece, and of the one behind it
module _ (p q : List ℕ) where
  captured-first : (k : ℕ) → 6 * k ≤ length p → captured_to (p ++ q) k ≡ captured_to p k
  unfolding captured_to
  captured-first zero h = refl
  captured-first (suc k) h =
      ap₂ (λ cs c. cs ++ c ∷ []) (captured-first k (omega arith)) (same-captured (p ++ q) p (6 * k) (6 * k) (λ i l. get_or-append p q 0 (6 * k + i) (omega arith)))

  captured-behind : (m n : ℕ) → length p ≡ 6 * m → captured_to (p ++ q) (m + n) ≡ captured_to p m ++ captured_to q n
  unfolding captured_to
  captured-behind m zero h = ap (captured_to (p ++ q)) (add-zero m) ∙ captured-first m (omega arith) ∙ sym (append-nil (captured_to p m))
  captured-behind m (suc n) h =
      ap (captured_to (p ++ q)) (add-suc m n)
      ∙ ap₂ (λ cs c. cs ++ c ∷ []) (captured-behind m n h)
      (same-captured (p ++ q) q (6 * (m + n)) (6 * n) (λ i l. ap (λ k. get_or (p ++ q) k 0) (omega arith) ∙ get_or-append-add p q (6 * n + i) 0))
      ∙ append_assoc (captured_to p m) (captured_to q n) (captured_at q (6 * n) ∷ [])

  -- a first piece that is cut between two records
  module _ (h : left_over p ≡ 0) where
    pub captured-pieces : captured_in (p ++ q) ≡ captured_in p ++ captured_in q
    unfolding captured_in left_over
    captured-pieces =
        let e : length (p ++ q) / 6 ≡ length p / 6 + length q / 6 = rw (length-append p q) (omega (arith, h)) in
        ap (captured_to (p ++ q)) e ∙ captured-behind (length p / 6) (length q / 6) (omega (arith, h))

    pub left-pieces : left_over (p ++ q) ≡ left_over q
    unfolding left_over
    left-pieces = rw (length-append p q) (omega (arith, h))

    -- "the verdict over pieces, cut between any two records, is the verdict over the whole": the second piece is checked from the bench that the
    -- first one left, and its records are counted from where those ended
    pub verdict-pieces : (n : ℕ) (x : Bench) → verdict_from n x (captured_in (p ++ q))
        ≡ onward (verdict_from n x (captured_in p)) (verdict_from (n + length p / 6) (bench_from x (captured_in p)) (captured_in q))
    unfolding captured_in
    verdict-pieces n x =
        ap (verdict_from n x) captured-pieces ∙ verdict-cut n x (captured_in p) (captured_in q)
        ∙ ap (λ k. onward (verdict_from n x (captured_in p)) (verdict_from (n + k) (bench_from x (captured_in p)) (captured_in q))) (captured-length p (length p / 6))
