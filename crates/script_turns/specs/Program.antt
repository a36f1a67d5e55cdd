-- The program as a whole, over any reads in which its input comes: what it writes, of the three steps put together as the program does it.
-- Assumes nothing.
use Rattle.std.specs.Prelude.{ℕ, ◌+◌, ◌%◌, ◌≤◌, List, [], ◌∷◌, ◌++◌, length, take, Result, Ok, Err}
use Rattle.rules.specs.Runs.{Bench}
use Rattle.script_turns.specs.Frame.{begin_of, finish_of}
use Rattle.script_turns.specs.declared.turns.Turned.{Turned}
use Rattle.script_turns.specs.Steps.{turn_of}

-- one read: the bytes that came, and whatever then stands in the buffer behind them
pub record Read : Type 0 where
  pub came : List ℕ
  pub behind : List ℕ

-- the buffer after a read: the bytes held stay, and the others come behind them
unfoldable pub read_into : List ℕ → ℕ → Read → List ℕ
read_into buf held r = take held buf ++ (r.came ++ r.behind)

-- all that came
unfoldable pub input_of : List Read → List ℕ
input_of [] = []
input_of (r ∷ rs) = r.came ++ input_of rs

-- every read has room, behind the bytes that are held then
unfoldable pub Fits : ℕ → ℕ → List Read → Type 0
Fits room held [] = Unit {0}
Fits room held (r ∷ rs) = (held + length r.came ≤ room) × Fits room ((held + length r.came) % 4) rs

-- what is written from here on: for each read its turn's lines, and at the input's end the last line
unfoldable pub turns_write : Bench → List ℕ → ℕ → List ℕ → List Read → List ℕ
turns_write x buf held out [] = take (finish_of held out).0 (finish_of held out).1
turns_write x buf held out (r ∷ rs) =
    let t : Turned × Bench × List ℕ × List ℕ = turn_of x (read_into buf held r) held (length r.came) out in
    take t.0.end t.3 ++ turns_write t.1 t.2 t.0.held t.3 rs

-- what is written behind a beginning: nothing is put where it has a bench, and what follows from that is written; otherwise what was put is
unfoldable pub followed : Result Bench ℕ → List ℕ → (Bench → List ℕ) → List ℕ
followed (Ok x) out more = more x
followed (Err end) out more = take end out

-- what is written altogether, for the bytes read as setup and the reads after it, with buffers that hold anything
unfoldable pub program_writes : List ℕ → List Read → List ℕ → List ℕ → List ℕ
program_writes head rs buf out =
    let b : Result Bench ℕ × List ℕ = begin_of head out in
    followed b.0 b.1 (λ x. turns_write x buf 0 b.1 rs)
