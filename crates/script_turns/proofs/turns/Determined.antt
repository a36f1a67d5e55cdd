-- Any two results that a step's contract allows are equal, and so is every byte of what it is lent: of the contract's own clause, as the borrow
-- checker reads it.
-- Assumes nothing.
use mathlib.Core.Path.{◌≡◌, sym, ◌∙◌, ap}
use mathlib.Core.List.{List}
use Prim.Native.Nat.{ℕ}
use contract.Lifetimes.{Lfts}
use borrow.Fn.World.{ArgsD, ResD}
use borrow.Fn.Kinds.{ended_of}
use denote.Triple.Clauses.{AtExit}
use Rattle.rules.specs.Runs.{Bench}
use Rattle.script_turns.specs.declared.turns.Turned.{Turned}
use Rattle.script_turns.specs.contracts.turns.turn as turn
use Rattle.script_turns.proofs.turns.turn.Kinds as turn_kinds
use Rattle.script_turns.proofs.turns.turn.Reads as turn_reads

-- turn: the end, how many bytes are held; the bench, and every byte of the buffer and of the output
pub turn-decides : (κs : Lfts 3) (a : ArgsD turn.signature κs) (r q : ResD turn.signature κs) (s o : AtExit (ended_of 3 turn_kinds.ps turn_kinds.r) κs)
    → turn_reads.Post κs a r s → turn_reads.Post κs a q o
    → (r ≡ q) × (s.0.now ≡ o.0.now) × (s.1.0.now ≡ o.1.0.now) × (s.1.1.1.1.0.now ≡ o.1.1.1.1.0.now)
turn-decides κs a r q s o p t = each _ _ (sym p ∙ t)
  where
    each : (x y : Turned × Bench × List ℕ × List ℕ) → x ≡ y → (x.0 ≡ y.0) × (x.1 ≡ y.1) × (x.2 ≡ y.2) × (x.3 ≡ y.3)
    each x y e = (
      ap (λ (z : Turned × Bench × List ℕ × List ℕ). z.0) e,
      ap (λ (z : Turned × Bench × List ℕ × List ℕ). z.1) e,
      ap (λ (z : Turned × Bench × List ℕ × List ℕ). z.2) e,
      ap (λ (z : Turned × Bench × List ℕ × List ℕ). z.3) e,
    )
