-- The program's turn, on the bytes that were read and the buffers that are lent. What it has written is the front of the output, as far as its
-- end says. The beginning, turn after turn, and the end write `script_of`: proofs/turns/Whole.
-- Assumes nothing.
use Rattle.std.specs.Prelude.{ℕ, ◌+◌, List, ◌++◌, length, take, drop}
use Rattle.std.proofs.lemmas.List.Edits.{sets}
use Rattle.rules.specs.Runs.{Bench}
use Rattle.script_turns.specs.declared.turns.Turned.{Turned}
use Rattle.script_turns.specs.Script.{bench_to, lines_to, records_in, left_of}

-- the whole records of some bytes, from a bench: where their lines end; then the bench and the output
unfoldable pub run_of : Bench → List ℕ → List ℕ → ℕ × Bench × List ℕ
run_of x bs out = (length (lines_to x bs (records_in bs)), bench_to x bs (records_in bs), sets out 0 (lines_to x bs (records_in bs)))

-- a turn: the bytes held at the front of the buffer and n more behind them have come. The whole records among them are run, and what is left
-- goes to the front of the buffer. Then the bench, the buffer and the output.
unfoldable pub turn_of : Bench → List ℕ → ℕ → ℕ → List ℕ → Turned × Bench × List ℕ × List ℕ
turn_of x buf held n out =
    let bs : List ℕ = take (held + n) buf in
    let r : ℕ × Bench × List ℕ = run_of x bs out in
    (record { end = r.0; held = length (left_of bs) }, r.1, left_of bs ++ drop (length (left_of bs)) buf, r.2)
