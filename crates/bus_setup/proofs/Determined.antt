-- Any two results that the entry's contract allows are equal: of the contract's own clause, as the borrow checker reads it.
-- Assumes nothing.
use mathlib.Core.Path.{◌≡◌, sym, ◌∙◌}
use contract.Lifetimes.{Lfts}
use borrow.Fn.World.{ArgsD, ResD}
use borrow.Fn.Kinds.{ended_of}
use denote.Triple.Clauses.{AtExit}
use Rattle.bus_setup.specs.contracts.setup as setup
use Rattle.bus_setup.proofs.setup.Kinds as setup_kinds
use Rattle.bus_setup.proofs.setup.Reads as setup_reads

-- setup: the bus and the answer
pub setup-decides : (κs : Lfts 0) (a : ArgsD setup.signature κs) (r q : ResD setup.signature κs) (s o : AtExit (ended_of 0 setup_kinds.ps setup_kinds.r) κs)
    → setup_reads.Post κs a r s → setup_reads.Post κs a q o → r ≡ q
setup-decides κs a r q s o p t = p ∙ sym t
