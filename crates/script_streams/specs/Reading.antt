-- What the reads of records leave: the turns over any reads, put together as the code does it. The bytes that come no contract can say, nor what is
-- written of the output; what is done with them these do.
-- Assumes nothing.
use Rattle.std.specs.Prelude.{ℕ, ◌≡◌, Bool, true, false, List, [], ◌∷◌, ◌++◌, ltb, length, take, Option, Some, None, IsSome, IfSome}
use Rattle.rules.specs.Runs.{Bench}
use Rattle.script_turns.specs.declared.turns.Turned.{Turned}
use Rattle.script_turns.specs.Frame.{finish_of}
use Rattle.script_turns.specs.Steps.{turn_of}
use Rattle.script_turns.specs.Program.{Read, read_into, Fits}

-- whether a read brought something
abbrev pub brought : Read → Bool
brought r = ltb 0 (length r.came)

-- what the turns leave: the bench, the buffer, how many bytes of a record are held at its front, whether the last read brought something, and the
-- output
pub record Ran : Type 0 where
  pub bench : Bench
  pub buf : List ℕ
  pub held : ℕ
  pub came : Bool
  pub out : List ℕ

unfoldable pub turns_leave : Ran → List Read → Ran
turns_leave q [] = q
turns_leave q (r ∷ rs) =
    let t : Turned × Bench × List ℕ × List ℕ = turn_of q.bench (read_into q.buf q.held r) q.held (length r.came) q.out in
    turns_leave (record { bench = t.1; buf = t.2; held = t.0.held; came = brought r; out = t.3 }) rs

abbrev pub begun : Bench → List ℕ → List ℕ → Ran
begun x buf out = record { bench = x; buf = buf; held = 0; came = true; out = out }

-- what the turns put at the front of the output, one after another
unfoldable pub turns_put : Ran → List Read → List ℕ
turns_put q [] = []
turns_put q (r ∷ rs) =
    let t : Turned × Bench × List ℕ × List ℕ = turn_of q.bench (read_into q.buf q.held r) q.held (length r.came) q.out in
    take t.0.end t.3 ++ turns_put (turns_leave q (r ∷ [])) rs

-- read after read
pub record Reached (q r : Ran) : Type 0 where
  pub reads : List Read
  pub turned : turns_leave q reads ≡ r

-- every read but the last brought something
unfoldable pub UpToLast : List Read → Type 0
UpToLast [] = Unit {0}
UpToLast (r ∷ []) = Unit {0}
UpToLast (r ∷ s ∷ rs) = (brought r ≡ true) × UpToLast (s ∷ rs)

-- and the last brought nothing: the input has ended
unfoldable pub Exhausted : List Read → Type 0
Exhausted [] = ⊥
Exhausted (r ∷ []) = brought r ≡ false
Exhausted (r ∷ s ∷ rs) = (brought r ≡ true) × Exhausted (s ∷ rs)

-- more reads than any input has
abbrev pub most_reads : ℕ
most_reads = 18446744073709551615

-- from the beginning, with a buffer that holds anything, to what is left in one. Every read had room behind what was held. All but the last
-- brought something; the last brought nothing, or its lines could not be told, unless that many reads were made. Where all were told, so many bytes
-- are held
pub record Ended (x : Bench) (out : List ℕ) (end : Option ℕ) (y : Bench) (written : List ℕ) : Type 0 where
  pub buf : List ℕ
  pub moved : List ℕ
  pub held : ℕ
  pub came : Bool
  pub reached : Reached (begun x buf out) (record { bench = y; buf = moved; held = held; came = came; out = written })
  pub fits : Fits 65536 0 reached.reads
  pub before : UpToLast reached.reads
  pub told : IfSome end (λ h. h ≡ held)
  pub over : IsSome end → came ≡ true → length reached.reads ≡ most_reads

-- the output with the last line, and what is put of it; after a telling that failed there is none
unfoldable pub finished_by : Option ℕ → List ℕ → List ℕ
finished_by (Some held) left = (finish_of held left).1
finished_by None left = left

unfoldable pub finish_put : Option ℕ → List ℕ → List ℕ
finish_put (Some held) written = take (finish_of held written).0 written
finish_put None written = []

-- the same with lines written, and then the last line, unless a write failed
pub record Served (x : Bench) (out : List ℕ) (y : Bench) (written : List ℕ) : Type 0 where
  pub end : Option ℕ
  pub left : List ℕ
  pub ended : Ended x out end y left
  pub finished : written ≡ finished_by end left

-- what is put at the front of the output from there on: by the turns, and at the end, unless a write failed
unfoldable pub served_put : (x : Bench) (out : List ℕ) (y : Bench) (written : List ℕ) → Served x out y written → List ℕ
served_put x out y written s = turns_put (begun x s.ended.buf out) s.ended.reached.reads ++ finish_put s.end written
