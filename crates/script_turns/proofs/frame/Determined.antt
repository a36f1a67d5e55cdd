-- Any two results that a step's contract allows are equal, and so is every byte of what it is lent: of the contract's own clause, as the borrow
-- checker reads it.
-- Assumes nothing.
use mathlib.Core.Path.{◌≡◌, sym, ◌∙◌, ap}
use mathlib.Core.List.{List}
use Prim.Native.Nat.{ℕ}
use contract.Lifetimes.{Lfts}
use borrow.Fn.World.{ArgsD, ResD}
use borrow.Fn.Kinds.{ended_of}
use denote.Triple.Clauses.{AtExit}
use Rattle.std.proofs.Common.{Result}
use Rattle.rules.specs.Runs.{Bench}
use Rattle.script_turns.specs.contracts.frame.begin as begin
use Rattle.script_turns.proofs.frame.begin.Kinds as begin_kinds
use Rattle.script_turns.proofs.frame.begin.Reads as begin_reads
use Rattle.script_turns.specs.contracts.frame.finish as finish
use Rattle.script_turns.proofs.frame.finish.Kinds as finish_kinds
use Rattle.script_turns.proofs.frame.finish.Reads as finish_reads

-- begin: the bench, or the end; every byte of the output
pub begin-decides : (κs : Lfts 2) (a : ArgsD begin.signature κs) (r q : ResD begin.signature κs) (s o : AtExit (ended_of 2 begin_kinds.ps begin_kinds.r) κs)
    → begin_reads.Post κs a r s → begin_reads.Post κs a q o → (r ≡ q) × (s.1.0.now ≡ o.1.0.now)
begin-decides κs a r q s o p t = each _ _ (sym p ∙ t)
  where
    each : (x y : Result Bench ℕ × List ℕ) → x ≡ y → (x.0 ≡ y.0) × (x.1 ≡ y.1)
    each x y e = (ap (λ (z : Result Bench ℕ × List ℕ). z.0) e, ap (λ (z : Result Bench ℕ × List ℕ). z.1) e)

-- finish: the end, and every byte of the output
pub finish-decides : (κs : Lfts 1) (a : ArgsD finish.signature κs) (r q : ResD finish.signature κs) (s o : AtExit (ended_of 1 finish_kinds.ps finish_kinds.r) κs)
    → finish_reads.Post κs a r s → finish_reads.Post κs a q o → (r ≡ q) × (s.1.0.now ≡ o.1.0.now)
finish-decides κs a r q s o p t = each _ _ (sym p ∙ t)
  where
    each : (x y : ℕ × List ℕ) → x ≡ y → (x.0 ≡ y.0) × (x.1 ≡ y.1)
    each x y e = (ap (λ (z : ℕ × List ℕ). z.0) e, ap (λ (z : ℕ × List ℕ). z.1) e)
