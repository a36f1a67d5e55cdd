-- Any two results that the entry's contract allows are equal: of the contract's own clause, as the borrow checker reads it.
-- Assumes nothing.
use Rattle.proof_lists.specs.Tests.{halves}
use Rattle.std.proofs.Common.{Result}
use mathlib.Core.Path.{◌≡◌, sym, ◌∙◌, ap}
use mathlib.Core.List.{List}
use Prim.Native.Nat.{ℕ}
use contract.Lifetimes.{Lfts}
use borrow.Fn.World.{ArgsD, ResD}
use borrow.Fn.Kinds.{ended_of}
use denote.Triple.Clauses.{AtExit}
use Rattle.rules.specs.declared.Refusal.{Refusal}
use Rattle.plan_entry.specs.contracts.plan as plan
use Rattle.plan_entry.proofs.plan.Kinds as plan_kinds
use Rattle.plan_entry.proofs.plan.Reads as plan_reads

-- plan: the number of records or the refusal, and every byte of the lent buffer
pub plan-decides : (κs : Lfts 3) (a : ArgsD plan.signature κs) (r q : ResD plan.signature κs) (s o : AtExit (ended_of 3 plan_kinds.ps plan_kinds.r) κs)
    → plan_reads.Post κs a r s → plan_reads.Post κs a q o → (r ≡ q) × (s.1.1.1.1.0.now ≡ o.1.1.1.1.0.now)
plan-decides κs a r q s o p t = halves _ _ (sym p.0 ∙ t.0)
