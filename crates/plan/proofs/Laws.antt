-- The answer, by what each branch of the code gives, and how long it can be.
-- Assumes nothing.
use Rattle.std.proofs.Common.{Result}
use mathlib.Core.Path.{◌≡◌, refl, ap}
use mathlib.Core.List.{List}
use Prim.Native.Nat.{ℕ, ◌≤◌, ◌<◌}
use native.Mathlib.Omega.{arith}
use borrow.Author.Tests.{lt-ltb, le-ltb, eq-eqb, ne_eqb}
use lib.Dec.{eqb, ltb}
use lib.ListN.{length, replicate}
use lib.Seq.{sets}
use Rattle.proof_lists.specs.Tests.{cond_cases}
use Rattle.rules.specs.declared.Refusal.{Refusal}
use Rattle.rules.specs.declared.SlotNo.{SlotNo}
use Rattle.rules.specs.Runs.{Bench}
use Rattle.script_text.specs.Letters.{short_line}
use Rattle.plan_rules.specs.Plan.{buffer_bytes, plan_of, plan_value}
use Rattle.plan_pages.specs.Listing.{text_of}
use Rattle.plan_pages.proofs.text.Laws.{text-length}
use Rattle.plan.specs.Asked.{plan_text, last_text, job_bytes, end_text, answer_of}
use Rattle.plan.proofs.Fits.{plan-fits}

-- an input that ends before the image does, a record that is cut, and what the planner gave
module _ (x : Bench) (k : SlotNo) (image out o : List ℕ) (came left end : ℕ) where
  pub answer-cut : came < job_bytes → (end ≡ 6) × (o ≡ sets out 0 short_line) → answer_of x k image came left out ≡ (end, o)
  unfolding answer_of end_text
  answer-cut c p = rw (lt-ltb came job_bytes c, p.0, p.1)

  pub answer-short : job_bytes ≤ came → (left ≡ 0 → ⊥) → (end ≡ 6) × (o ≡ sets out 0 short_line) → answer_of x k image came left out ≡ (end, o)
  unfolding answer_of end_text last_text
  answer-short c h p = rw (le-ltb came job_bytes c, ne_eqb left 0 h, p.0, p.1)

  pub answer-plan : (p : Result ℕ Refusal) (rs : List ℕ) → job_bytes ≤ came → left ≡ 0 → plan_of x.bus x.memory k image (replicate buffer_bytes 0) ≡ (p, rs)
      → (end ≡ length (text_of p rs)) × (o ≡ sets out 0 (text_of p rs)) → answer_of x k image came left out ≡ (end, o)
  unfolding answer_of end_text last_text plan_text
  answer-plan p rs c h e q = rw (le-ltb came job_bytes c, eq-eqb left 0 h, e, q.0, q.1)

-- the answer lies in the output
plan-length : (x : Bench) (k : SlotNo) (image : List ℕ) → length (plan_text x k image) ≤ 9000
unfolding plan_text
plan-length x k image =
    let p : Result ℕ Refusal × List ℕ = plan_of x.bus x.memory k image (replicate buffer_bytes 0) in
    let f : plan_value p.0 ≤ 811 = plan-fits x.bus x.memory k image (replicate buffer_bytes 0) p.1 p.0 refl in
    omega (arith, text-length p.0 p.1 (omega arith))

pub text-fits : (x : Bench) (k : SlotNo) (image : List ℕ) (came left : ℕ) → length (end_text x k image came left) ≤ 9000
unfolding end_text last_text
text-fits x k image came left =
    let P : List ℕ → Type 0 = λ t. length t ≤ 9000 in
    cond_cases P (ltb came job_bytes) (λ _. omega arith) (λ _. cond_cases P (eqb left 0) (λ _. plan-length x k image) (λ _. omega arith))

pub answer-onward : (x : Bench) (k : SlotNo) (image out o : List ℕ) (came left end : ℕ) → answer_of x k image came left out ≡ (end, o) → 9000 ≤ length out
    → end ≤ length out
unfolding answer_of
answer-onward x k image out o came left end e h =
    let f : length (end_text x k image came left) ≡ end = ap (λ (z : ℕ × List ℕ). z.0) e in
    omega (arith, text-fits x k image came left)
