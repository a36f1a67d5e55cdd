-- Any two results that the entry's contract allows are equal: of the contract's own clause, as the borrow checker reads it.
-- Assumes nothing.
use Rattle.proof_lists.specs.Tests.{halves}
use mathlib.Core.Path.{◌≡◌, sym, ◌∙◌, ap}
use mathlib.Core.List.{List}
use Prim.Native.Nat.{ℕ}
use contract.Lifetimes.{Lfts}
use borrow.Fn.World.{ArgsD, ResD}
use borrow.Fn.Kinds.{ended_of}
use denote.Triple.Clauses.{AtExit}
use Rattle.std.specs.Prelude.{Result}
use Rattle.rules.specs.declared.Refusal.{Refusal}
use Rattle.save_entry.specs.contracts.save as save
use Rattle.save_entry.proofs.save.Kinds as save_kinds
use Rattle.save_entry.proofs.save.Reads as save_reads

-- save: the length or the refusal, and every byte of the lent buffer
pub save-decides : (κs : Lfts 2) (a : ArgsD save.signature κs) (r q : ResD save.signature κs) (s o : AtExit (ended_of 2 save_kinds.ps save_kinds.r) κs)
    → save_reads.Post κs a r s → save_reads.Post κs a q o → (r ≡ q) × (s.1.1.0.now ≡ o.1.1.0.now)
save-decides κs a r q s o p t = halves _ _ (sym p ∙ t)
