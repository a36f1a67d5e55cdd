-- Any two results that a public entry's contract allows are equal: of the contract's own clause, as the borrow checker reads it.
-- Assumes nothing.
use Rattle.proof_lists.specs.Tests.{halves}
use mathlib.Core.Path.{◌≡◌, sym, ◌∙◌, ap}
use mathlib.Core.List.{List}
use Prim.Native.Nat.{ℕ}
use contract.Lifetimes.{Lfts}
use borrow.Fn.World.{ArgsD, ResD}
use borrow.Fn.Kinds.{ended_of}
use denote.Triple.Clauses.{AtExit}
use Rattle.rules.specs.declared.Outcome.{Outcome}
use Rattle.bus_event.specs.contracts.event as event
use Rattle.bus_event.proofs.event.Kinds as event_kinds
use Rattle.bus_event.proofs.event.Reads as event_reads
use Rattle.bus_event.specs.contracts.event_in_range as in_range
use Rattle.bus_event.proofs.event_in_range.Kinds as in_range_kinds
use Rattle.bus_event.proofs.event_in_range.Reads as in_range_reads

-- event: the next bus, the answer and every byte of the lent memory

pub event-decides : (κs : Lfts 1) (a : ArgsD event.signature κs) (r q : ResD event.signature κs) (s o : AtExit (ended_of 1 event_kinds.ps event_kinds.r) κs)
    → event_reads.Post κs a r s → event_reads.Post κs a q o → (r ≡ q) × (s.1.0.now ≡ o.1.0.now)
event-decides κs a r q s o p t = halves _ _ (sym p ∙ t)

pub event-in-range-decides : (κs : Lfts 1) (a : ArgsD in_range.signature κs) (r q : ResD in_range.signature κs) (s o : AtExit (ended_of 1 in_range_kinds.ps in_range_kinds.r) κs)
    → in_range_reads.Post κs a r s → in_range_reads.Post κs a q o → (r ≡ q) × (s.1.0.now ≡ o.1.0.now)
event-in-range-decides κs a r q s o p t = halves _ _ (sym p ∙ t)
