-- Any two results that the inner entry's contract allows are equal, and so is every byte of what it is lent: of the contract's own clause, as the
-- borrow checker reads it.
-- Assumes nothing.
use Rattle.proof_lists.specs.Tests.{halves}
use mathlib.Core.Path.{◌≡◌, sym, ◌∙◌, ap}
use mathlib.Core.List.{List}
use Prim.Native.Nat.{ℕ}
use contract.Lifetimes.{Lfts}
use borrow.Fn.World.{ArgsD, ResD}
use borrow.Fn.Kinds.{ended_of}
use denote.Triple.Clauses.{AtExit}
use Rattle.capture_pieces.specs.declared.pieces.Checked.{Checked}
use Rattle.capture_pieces.specs.contracts.pieces.piece as piece
use Rattle.capture_pieces.proofs.pieces.piece.Kinds as piece_kinds
use Rattle.capture_pieces.proofs.pieces.piece.Reads as piece_reads

-- piece: the bus, the verdict and every byte of the lent memory
pub piece-decides : (κs : Lfts 2) (a : ArgsD piece.signature κs) (r q : ResD piece.signature κs) (s o : AtExit (ended_of 2 piece_kinds.ps piece_kinds.r) κs)
    → piece_reads.Post κs a r s → piece_reads.Post κs a q o → (r ≡ q) × (s.1.0.now ≡ o.1.0.now)
piece-decides κs a r q s o p t = halves _ _ (sym p ∙ t)
