-- What is written of a bench and the records that it is then given: the script's lines, and with them the lines of the slots.
-- Assumes nothing.
use Rattle.std.specs.Prelude.{ℕ, zero, suc, List, [], ◌++◌, drop}
use Rattle.rules.specs.declared.Event.{Event}
use Rattle.rules.specs.Runs.{Bench, next, answered}
use Rattle.script_text.specs.Records.{record_at}
use Rattle.script_text.specs.Letters.{line_of}
use Rattle.script_turns.specs.Script.{records_in, ending}
use Rattle.watch_text.specs.Lines.{change_lines, bench_lines}

-- "each record's line is the script's, and behind it comes a line for each present slot whose numbers changed"
unfoldable pub record_text : Event → Bench → List ℕ
record_text e x = line_of (answered e x) ++ change_lines x.bus.slots (next e x).bus.slots

-- the first n records of some bytes, from a bench
unfoldable pub record_texts : Bench → List ℕ → ℕ → List ℕ
record_texts x bs zero = []
record_texts x bs (suc n) = record_text (record_at bs 0) x ++ record_texts (next (record_at bs 0) x) (drop 4 bs) n

-- all of some bytes, and the last line, which is the script's
unfoldable pub bench_text : Bench → List ℕ → List ℕ
bench_text x bs = record_texts x bs (records_in bs) ++ ending bs

-- "(for all of them behind the setup)": a line for each present slot of the bench, and then all of some bytes
unfoldable pub watched_text : Bench → List ℕ → List ℕ
watched_text x bs = bench_lines x.bus ++ bench_text x bs
