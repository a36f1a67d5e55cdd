-- A piece of a capture: the whole records of some bytes, from a bench on, where n records went before.
-- Assumes nothing.
use Rattle.std.specs.Prelude.{ℕ, List}
use Rattle.rules.specs.declared.Bus.{Bus}
use Rattle.rules.specs.Runs.{Bench}
use Rattle.capture_rules.specs.Capture.{Captured, captured_in, verdict_from, bench_from}
use Rattle.capture_pieces.specs.declared.pieces.Checked.{Checked}

-- the bus that it leaves, and the verdict; then the memory
unfoldable pub piece_of : Bus → List ℕ → ℕ → List ℕ → Checked × List ℕ
piece_of b m n bs =
    let x : Bench = record { bus = b; memory = m } in
    let cs : List Captured = captured_in bs in
    (record { bus = (bench_from x cs).bus; verdict = verdict_from n x cs }, (bench_from x cs).memory)
