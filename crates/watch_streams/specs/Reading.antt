-- What the reads of records leave: one step for each, put together as the code does it. The bytes that come no contract can say, nor what is written
-- of the output; what is done with them these do.
-- Assumes nothing.
use Rattle.std.specs.Prelude.{ℕ, ◌≤◌, ◌≡◌, Bool, true, List, [], ◌∷◌, ◌++◌, length}
use Rattle.std.proofs.lemmas.List.Edits.{sets}
use Rattle.rules.specs.Runs.{Bench}
use Rattle.script_streams.specs.Reading.{most_reads}
use Rattle.watch_text.specs.Lines.{bench_lines}
use Rattle.watch_streams.specs.Steps.{cut, read_text, read_next}

-- read after read: the bench, the output, and what is put at its front, one after another
unfoldable pub bench_left : Bench → List (List ℕ) → Bench
bench_left x [] = x
bench_left x (c ∷ cs) = bench_left (read_next x c) cs

unfoldable pub out_left : Bench → List ℕ → List (List ℕ) → List ℕ
out_left x out [] = out
out_left x out (c ∷ cs) = out_left (read_next x c) (sets out 0 (read_text x c)) cs

unfoldable pub text_put : Bench → List (List ℕ) → List ℕ
text_put x [] = []
text_put x (c ∷ cs) = read_text x c ++ text_put (read_next x c) cs

-- all that came
unfoldable pub input_of : List (List ℕ) → List ℕ
input_of [] = []
input_of (c ∷ cs) = c ++ input_of cs

-- every read but the last brought a whole record
unfoldable pub UpToLast : List (List ℕ) → Type 0
UpToLast [] = Unit {0}
UpToLast (c ∷ []) = length c ≤ 4
UpToLast (c ∷ d ∷ cs) = (length c ≡ 4) × UpToLast (d ∷ cs)

-- and the last brought less: the input has ended
unfoldable pub Exhausted : List (List ℕ) → Type 0
Exhausted [] = ⊥
Exhausted (c ∷ []) = cut c ≡ true
Exhausted (c ∷ d ∷ cs) = (length c ≡ 4) × Exhausted (d ∷ cs)

-- what is left of all of it, from a bench on. Where all that was put is told, the last read brought less than a record, unless that many were made
pub record Watched (x : Bench) (out : List ℕ) (told : Bool) (y : Bench) (written : List ℕ) : Type 0 where
  pub reads : List (List ℕ)
  pub bench : y ≡ bench_left x reads
  pub put : written ≡ out_left x (sets out 0 (bench_lines x.bus)) reads
  pub before : UpToLast reads
  pub over : told ≡ true → (length reads ≡ most_reads → ⊥) → Exhausted reads

-- what is put at the front of the output, one after another
unfoldable pub watched_put : (x : Bench) (out : List ℕ) (told : Bool) (y : Bench) (written : List ℕ) → Watched x out told y written → List ℕ
watched_put x out told y written w = bench_lines x.bus ++ text_put x w.reads
