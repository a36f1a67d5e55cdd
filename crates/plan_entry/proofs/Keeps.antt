-- The planner's whole promise, of the entry's own contract: whatever is lent to it, where it gives records, all that `Promised` says holds of them.
-- Assumes nothing.
use Rattle.std.proofs.Common.{Result, Ok}
use mathlib.Core.Path.{◌≡◌, ◌∙◌, ap, subst}
use mathlib.Core.List.{List}
use Prim.Native.Nat.{ℕ}
use contract.Lifetimes.{Lfts}
use borrow.Fn.World.{ArgsD, ResD}
use borrow.Fn.Kinds.{ended_of}
use denote.Triple.Clauses.{AtExit}
use Rattle.rules.specs.declared.Refusal.{Refusal}
use Rattle.plan_rules.specs.Plan.{plan_number}
use Rattle.plan_rules.proofs.Promise.{Promised, promised}
use Rattle.plan_entry.specs.contracts.plan as plan
use Rattle.plan_entry.proofs.plan.Kinds as plan_kinds
use Rattle.plan_entry.proofs.plan.Reads as plan_reads

pub plan-keeps : (κs : Lfts 3) (a : ArgsD plan.signature κs) (r : ResD plan.signature κs) (s : AtExit (ended_of 3 plan_kinds.ps plan_kinds.r) κs)
    → plan_reads.Post κs a r s → (n : ℕ) → r ≡ Ok n
    → Promised a.0 a.1.0.now a.1.1.0 a.1.1.1.0.now a.1.1.1.1.0.now n s.1.1.1.1.0.now
unfolding plan_number
plan-keeps κs a r s p n e =
    subst (Promised a.0 a.1.0.now a.1.1.0 a.1.1.1.0.now a.1.1.1.1.0.now n) (ap (λ (z : Result ℕ Refusal × List ℕ). z.1) p.0)
    (promised a.0 a.1.0.now a.1.1.0 a.1.1.1.0.now a.1.1.1.1.0.now n (p.1 (ap plan_number e)) (ap (λ (z : Result ℕ Refusal × List ℕ). z.0) p.0 ∙ e))
