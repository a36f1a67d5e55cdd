-- Any two results that the entry's contract allows are equal: of the contract's own clause, as the borrow checker reads it.
-- Assumes nothing.
use mathlib.Core.Path.{◌≡◌, sym, ◌∙◌}
use contract.Lifetimes.{Lfts}
use borrow.Fn.World.{ArgsD, ResD}
use borrow.Fn.Kinds.{ended_of}
use denote.Triple.Clauses.{AtExit}
use Rattle.capture_entry.specs.contracts.check as check
use Rattle.capture_entry.proofs.check.Kinds as check_kinds
use Rattle.capture_entry.proofs.check.Reads as check_reads

-- check: the verdict; what it is lent it only reads
pub check-decides : (κs : Lfts 2) (a : ArgsD check.signature κs) (r q : ResD check.signature κs) (s o : AtExit (ended_of 2 check_kinds.ps check_kinds.r) κs)
    → check_reads.Post κs a r s → check_reads.Post κs a q o → r ≡ q
check-decides κs a r q s o p t = p ∙ sym t
