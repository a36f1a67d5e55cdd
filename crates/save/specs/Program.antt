-- The program as a whole, over any reads in which its input comes: what it writes, of its steps put together as the program does it. The bytes that
-- came as setup are given, and then the reads of the records, with the last one, which brings nothing.
-- Assumes nothing.
use Rattle.std.specs.Prelude.{ℕ, ◌≡◌, List, take, Result, Ok, Err, Some}
use Rattle.rules.specs.Runs.{Bench}
use Rattle.script_turns.specs.Frame.{begin_of}
use Rattle.script_turns.specs.Program.{Read}
use Rattle.script_streams.specs.Reading.{Ran, turns_leave, begun, Ended}
use Rattle.script_streams.specs.Written.{Written, on_output, on_errors}
use Rattle.save.specs.Asked.{answer_of}

-- the records' reads as they ended, over some buffer for their lines, and the answer
pub record Served (x : Bench) (out : List ℕ) (r : Result ℕ ℕ) (written : List ℕ) : Type 0 where
  pub lines : List ℕ
  pub held : ℕ
  pub bench : Bench
  pub left : List ℕ
  pub ended : Ended x lines (Some held) bench left
  pub answered : answer_of bench held out ≡ (r, written)

-- the front of the output, on the one or the other
unfoldable pub fronted : Result ℕ ℕ → List ℕ → Written
fronted (Ok form) out = on_output (take form out)
fronted (Err line) out = on_errors (take line out)

-- what is written after a good setup
unfoldable pub serve_writes : Bench → List Read → List ℕ → List ℕ → List ℕ → Written
serve_writes x rs buf lines out =
    let r : Ran = turns_leave (begun x buf lines) rs in
    let a : Result ℕ ℕ × List ℕ = answer_of r.bench r.held out in
    fronted a.0 a.1

-- what is written behind a beginning: where it has a bench nothing is put, and then what follows
unfoldable pub followed : Result Bench ℕ → List ℕ → (Bench → Written) → Written
followed (Ok x) out more = more x
followed (Err end) out more = on_errors (take end out)

-- what is written altogether, with buffers that hold anything
unfoldable pub save_writes : List ℕ → List Read → List ℕ → List ℕ → List ℕ → Written
save_writes head rs buf lines out =
    let b : Result Bench ℕ × List ℕ = begin_of head out in
    followed b.0 b.1 (λ x. serve_writes x rs buf lines b.1)
