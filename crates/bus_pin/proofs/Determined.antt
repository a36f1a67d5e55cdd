-- Any two results that the entry's contract allows are equal: of the contract's own clause, as the borrow checker reads it.
-- Assumes nothing.
use mathlib.Core.Path.{◌≡◌, sym, ◌∙◌}
use contract.Lifetimes.{Lfts}
use borrow.Fn.World.{ArgsD, ResD}
use borrow.Fn.Kinds.{ended_of}
use denote.Triple.Clauses.{AtExit}
use Rattle.bus_pin.specs.contracts.pin as pin
use Rattle.bus_pin.proofs.pin.Kinds as pin_kinds
use Rattle.bus_pin.proofs.pin.Reads as pin_reads

pub pin-decides : (κs : Lfts 0) (a : ArgsD pin.signature κs) (r q : ResD pin.signature κs) (s o : AtExit (ended_of 0 pin_kinds.ps pin_kinds.r) κs)
    → pin_reads.Post κs a r s → pin_reads.Post κs a q o → r ≡ q
pin-decides κs a r q s o p t = p ∙ sym t
