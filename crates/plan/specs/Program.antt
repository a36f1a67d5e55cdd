-- The program as a whole, over any reads in which its input comes: what it writes, of its steps put together as the program does it. The bytes that
-- came as setup, memory, slot and image are given, and then the reads of the records, with the last one, which brings nothing.
-- Assumes nothing.
use Rattle.std.specs.Prelude.{ℕ, ◌+◌, List, length, take, get_or, Result}
use Rattle.rules.specs.declared.Bus.{Bus}
use Rattle.rules.specs.Runs.{Bench}
use Rattle.script_turns.specs.Frame.{begin_of}
use Rattle.script_turns.specs.Program.{Read, followed}
use Rattle.script_streams.specs.Reading.{Ran, turns_leave, begun}
use Rattle.plan.specs.Asked.{answer_of}

-- what is written after a good setup
unfoldable pub serve_writes : Bus → List ℕ → List ℕ → List ℕ → List Read → List ℕ → List ℕ → List ℕ
serve_writes b m slot image rs buf out =
    let r : Ran = turns_leave (begun (record { bus = b; memory = m }) buf out) rs in
    let a : ℕ × List ℕ = answer_of r.bench (record { 0 = get_or slot 0 0 }) image (length m + length slot + length image) r.held r.out in
    take a.0 a.1

-- what is written altogether, with buffers that hold anything
unfoldable pub plan_writes : List ℕ → List ℕ → List ℕ → List ℕ → List Read → List ℕ → List ℕ → List ℕ
plan_writes head m slot image rs buf out =
    let b : Result Bench ℕ × List ℕ = begin_of head out in
    followed b.0 b.1 (λ x. serve_writes x.bus m slot image rs buf b.1)
