-- Records behind records: the verdict on all of them, and the bench that it leaves.
-- Assumes nothing.
use Prim.Native.Nat.{ℕ, suc, ◌+◌}
use native.Mathlib.Nat.{add-zero}
use native.Mathlib.Omega.{arith}
use mathlib.Core.Path.{◌≡◌, refl, sym, ◌∙◌, ap}
use mathlib.Core.Bool.{false≢true}
use mathlib.Core.List.{List, [], ◌∷◌, ◌++◌}
use lib.ListN.{length}
use Rattle.proof_lists.specs.Tests.{by-test}
use Rattle.rules.specs.declared.Answer.{Answer}
use Rattle.rules.specs.Runs.{Bench, next, answered}
use Rattle.capture_rules.specs.declared.Seen.{Seen}
use Rattle.capture_rules.specs.declared.Verdict.TheVariants.{Accepted, Differs}
use Rattle.capture_rules.specs.Capture.{Captured, agrees, verdict_from, bench_from}
use Rattle.capture_rules.specs.Agreement.{onward, is_accepted}

pub not-accepted : {k : ℕ} {a : Answer} {s : Seen} → Differs k a s ≡ Accepted → ⊥
unfolding is_accepted
not-accepted e = false≢true (ap is_accepted e)

-- "the verdict over pieces, cut between any two records, is the verdict over the whole"
pub verdict-cut : (n : ℕ) (x : Bench) (p q : List Captured)
    → verdict_from n x (p ++ q) ≡ onward (verdict_from n x p) (verdict_from (n + length p) (bench_from x p) q)
unfolding verdict_from bench_from onward
verdict-cut n x [] q = ap (λ k. verdict_from k x q) (sym (add-zero n))
verdict-cut n x (c ∷ p) q =
    by-test (agrees (answered c.event x) c.seen)
    (λ e. rw e (verdict-cut (suc n) (next c.event x) p q ∙ ap (λ k. onward (verdict_from (suc n) (next c.event x) p) (verdict_from k (bench_from (next c.event x) p) q)) (omega arith)))
    (λ e. rw e)

-- where the first ones agree, the check goes on behind them
pub bench-cut : (n : ℕ) (x : Bench) (p q : List Captured) → verdict_from n x p ≡ Accepted → bench_from x (p ++ q) ≡ bench_from (bench_from x p) q
unfolding verdict_from bench_from
bench-cut n x [] q h = refl
bench-cut n x (c ∷ p) q h =
    by-test (agrees (answered c.event x) c.seen) (λ e. rw e (bench-cut (suc n) (next c.event x) p q (rw e at h)))
    (λ e. absurd (not-accepted (rw e at h)))

-- and where one of them differs, it has ended
pub bench-ended : (n : ℕ) (x : Bench) (p q : List Captured) (k : ℕ) (a : Answer) (s : Seen) → verdict_from n x p ≡ Differs k a s
    → bench_from x (p ++ q) ≡ bench_from x p
unfolding verdict_from bench_from
bench-ended n x [] q k a s h = absurd (not-accepted (sym h))
bench-ended n x (c ∷ p) q k a s h =
    by-test (agrees (answered c.event x) c.seen) (λ e. rw e (bench-ended (suc n) (next c.event x) p q k a s (rw e at h)))
    (λ e. rw e)
