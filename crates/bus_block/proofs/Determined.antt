-- Any two results that the entry's contract allows are equal: of the contract's own clause, as the borrow checker reads it.
-- Assumes nothing.
use mathlib.Core.Path.{◌≡◌, sym, ◌∙◌}
use contract.Lifetimes.{Lfts}
use borrow.Fn.World.{ArgsD, ResD}
use borrow.Fn.Kinds.{ended_of}
use denote.Triple.Clauses.{AtExit}
use Rattle.bus_block.specs.contracts.block as block
use Rattle.bus_block.proofs.block.Kinds as block_kinds
use Rattle.bus_block.proofs.block.Reads as block_reads

-- block: the bytes of the part, and where it lies
pub block-decides : (κs : Lfts 1) (a : ArgsD block.signature κs) (r q : ResD block.signature κs) (s o : AtExit (ended_of 1 block_kinds.ps block_kinds.r) κs)
    → block_reads.Post κs a r s → block_reads.Post κs a q o → (r.now ≡ q.now) × (r.ref_ptr.0 ≡ q.ref_ptr.0) × (r.ref_ptr.1 ≡ q.ref_ptr.1)
block-decides κs a r q s o p t = (p.0 ∙ sym t.0, p.1 ∙ sym t.1, p.2 ∙ sym t.2)
