-- Any two results that the entry's contract allows are equal: of the contract's own clause, as the borrow checker reads it.
-- Assumes nothing.
use Rattle.proof_lists.specs.Tests.{halves}
use mathlib.Core.Path.{◌≡◌, sym, ◌∙◌, ap}
use mathlib.Core.List.{List}
use Prim.Native.Nat.{ℕ}
use contract.Lifetimes.{Lfts}
use borrow.Fn.World.{ArgsD, ResD}
use borrow.Fn.Kinds.{ended_of}
use denote.Triple.Clauses.{AtExit}
use Rattle.rules.specs.declared.Outcome.{Outcome}
use Rattle.save_restore.specs.contracts.restore as restore
use Rattle.save_restore.proofs.restore.Kinds as restore_kinds
use Rattle.save_restore.proofs.restore.Reads as restore_reads

-- restore: the bus and the answer, and every byte of the lent memory
pub restore-decides : (κs : Lfts 2) (a : ArgsD restore.signature κs) (r q : ResD restore.signature κs) (s o : AtExit (ended_of 2 restore_kinds.ps restore_kinds.r) κs)
    → restore_reads.Post κs a r s → restore_reads.Post κs a q o → (r ≡ q) × (s.1.0.now ≡ o.1.0.now)
restore-decides κs a r q s o p t = halves _ _ (sym p ∙ t)
