-- What whoever goes on from a step needs of it: what is to be written lies in the output, less than a record is held. And records keep a bench in range.
-- Assumes nothing.
use mathlib.Core.Path.{◌≡◌, refl, ◌∙◌, ap}
use mathlib.Core.Bool.{true}
use mathlib.Core.List.{List}
use Prim.Native.Nat.{ℕ, zero, suc, ◌+◌, ◌*◌, ◌/◌, ◌<◌, ◌≤◌}
use native.Mathlib.Omega.{arith}
use lib.ListN.{length, take}
use lib.Seq.{length-take-le}
use Rattle.rules.specs.Refusals.{in_range}
use Rattle.rules.specs.Runs.{Bench}
use Rattle.rules.proofs.Memory.Stored.{memory-length-next}
use Rattle.rules.proofs.Range.Kept.{next-in-range}
use Rattle.script_turns.specs.declared.turns.Turned.{Turned}
use Rattle.script_text.specs.Records.{record_at}
use Rattle.script_turns.specs.Script.{records_in, left_of, bench_to, lines_to}
use Rattle.script_turns.specs.Steps.{run_of, turn_of}
use Rattle.script_turns.proofs.turns.Laws.{lines-length, left-length}

-- records keep a bus in range, and the memory's length
pub bench-in-range : (x : Bench) (bs : List ℕ) (n : ℕ) → in_range x.bus ≡ true → in_range (bench_to x bs n).bus ≡ true
unfolding bench_to
bench-in-range x bs zero h = h
bench-in-range x bs (suc n) h = next-in-range (record_at bs (4 * n)) (bench_to x bs n) (bench-in-range x bs n h)

pub bench-length : (x : Bench) (bs : List ℕ) (n : ℕ) → length (bench_to x bs n).memory ≡ length x.memory
unfolding bench_to
bench-length x bs zero = refl
bench-length x bs (suc n) = memory-length-next (record_at bs (4 * n)) (bench_to x bs n) ∙ bench-length x bs n

pub turn-onward : (x : Bench) (buf out : List ℕ) (held n : ℕ) (r : Turned) (y : Bench) (q o : List ℕ)
    → turn_of x buf held n out ≡ (r, y, q, o) → (held + n ≤ length buf) × (length buf ≤ length out) → (r.end ≤ length out) × (r.held < 4)
unfolding turn_of run_of records_in
turn-onward x buf out held n r y q o e h =
    let bs : List ℕ = take (held + n) buf in
    let l : length bs ≡ held + n = length-take-le (held + n) buf h.0 in
    let k : length (lines_to x bs (length bs / 4)) ≡ r.end = ap (λ (z : Turned × Bench × List ℕ × List ℕ). z.0.end) e in
    let d : length (left_of bs) ≡ r.held = ap (λ (z : Turned × Bench × List ℕ × List ℕ). z.0.held) e in
    (omega (arith, lines-length x bs (length bs / 4), h.0, h.1), omega (arith, left-length bs))
