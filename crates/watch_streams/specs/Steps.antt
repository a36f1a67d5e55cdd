-- The steps of watching, on the bytes that were read and the buffers that are lent. What a step has written is the front of the output, as far as its
-- end says.
-- Assumes nothing.
use Rattle.std.specs.Prelude.{ℕ, Bool, not, cond, List, ltb, length, Result, Ok, Err}
use Rattle.std.proofs.lemmas.List.Edits.{sets}
use Rattle.rules.specs.Runs.{Bench, next}
use Rattle.script_text.specs.Records.{record_at}
use Rattle.script_turns.specs.Frame.{last_line}
use Rattle.watch_streams.specs.Texts.{record_text}

-- what is read at a time is the bytes of one record, or fewer: then the input has ended
abbrev pub cut : List ℕ → Bool
cut c = ltb (length c) 4

-- what is put for it, and the bench after it
unfoldable pub read_text : Bench → List ℕ → List ℕ
read_text x c = cond (cut c) (last_line (length c)) (record_text (record_at c 0) x)

unfoldable pub read_next : Bench → List ℕ → Bench
read_next x c = cond (cut c) x (next (record_at c 0) x)

-- a step: where what it put ends; then the bench and the output
unfoldable pub step_of : Bench → List ℕ → List ℕ → ℕ × Bench × List ℕ
step_of x c out = (length (read_text x c), read_next x c, sets out 0 (read_text x c))

-- whether a next record is waited for, by what telling this one of n bytes gave; or why it could not be told
abbrev pub onward : {T E : Type 0} → Result T E → ℕ → Result Bool E
onward (Ok told) n = Ok (not (ltb n 4))
onward (Err why) n = Err why
