-- What whoever goes on from a piece needs of it: the bus is in range.
-- Assumes nothing.
use mathlib.Core.Path.{◌≡◌, sym, ◌∙◌, ap}
use mathlib.Core.Bool.{true}
use mathlib.Core.List.{List, [], ◌∷◌}
use Prim.Native.Nat.{ℕ}
use Rattle.proof_lists.specs.Tests.{cond_cases}
use Rattle.rules.specs.declared.Bus.{Bus}
use Rattle.rules.specs.Refusals.{in_range}
use Rattle.rules.specs.Runs.{Bench, next, answered}
use Rattle.rules.proofs.Range.Kept.{next-in-range}
use Rattle.capture_rules.specs.Capture.{Captured, captured_in, agrees, bench_from}
use Rattle.capture_pieces.specs.declared.pieces.Checked.{Checked}
use Rattle.capture_pieces.specs.Piece.{piece_of}

bench-in-range : (x : Bench) (cs : List Captured) → in_range x.bus ≡ true → in_range (bench_from x cs).bus ≡ true
unfolding bench_from
bench-in-range x [] h = h
bench-in-range x (c ∷ cs) h =
    let k : in_range (next c.event x).bus ≡ true = next-in-range c.event x h in
    cond_cases (λ (y : Bench). in_range y.bus ≡ true) (agrees (answered c.event x) c.seen) (λ e. bench-in-range (next c.event x) cs k) (λ e. k)

pub piece-onward : (b : Bus) (m : List ℕ) (n : ℕ) (bs : List ℕ) (r : Checked) (q : List ℕ) → piece_of b m n bs ≡ (r, q) → in_range b ≡ true
    → in_range r.bus ≡ true
unfolding piece_of
piece-onward b m n bs r q e h =
    sym (ap (λ (z : Checked × List ℕ). in_range z.0.bus) e) ∙ bench-in-range (record { bus = b; memory = m }) (captured_in bs) h
