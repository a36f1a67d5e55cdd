-- Document 01, "The script program": records, lines, and the whole output.
-- Assumes nothing.
use Rattle.std.specs.Prelude.{ℕ, zero, suc, ◌*◌, ◌/◌, ◌%◌, cond, List, [], ◌++◌, ltb, length, drop}
use Rattle.std.specs.List.{list_all}
use Rattle.rules.specs.declared.Pair.{Pair}
use Rattle.rules.specs.Refusals.{good_pair, setup_of}
use Rattle.rules.specs.Runs.{Bench, next, answered}
use Rattle.script_text.specs.Records.{pairs_of, record_at}
use Rattle.script_text.specs.Letters.{line_of, short_line}
use Rattle.script_turns.specs.Frame.{last_line, bad_setup_line, starting_memory}

-- the first n records of some bytes, from a bench: the bench after them, and their lines
unfoldable pub bench_to : Bench → List ℕ → ℕ → Bench
bench_to x bs zero = x
bench_to x bs (suc n) = next (record_at bs (4 * n)) (bench_to x bs n)

unfoldable pub lines_to : Bench → List ℕ → ℕ → List ℕ
lines_to x bs zero = []
lines_to x bs (suc n) = lines_to x bs n ++ line_of (answered (record_at bs (4 * n)) (bench_to x bs n))

-- the whole records of some bytes, and what is left over: the bytes of a record that is cut
unfoldable pub records_in : List ℕ → ℕ
records_in bs = length bs / 4

unfoldable pub left_of : List ℕ → List ℕ
left_of bs = drop (4 * records_in bs) bs

-- so many bytes of a record came
unfoldable pub ending : List ℕ → List ℕ
ending bs = last_line (length bs % 4)

unfoldable pub begun_at : List Pair → Bench
begun_at ps = record { bus = (setup_of ps).bus; memory = starting_memory }

-- all that the program writes, for all that it reads
unfoldable pub script_of : List ℕ → List ℕ
script_of bs =
    cond (ltb (length bs) 16) short_line
    (cond (list_all good_pair (pairs_of bs))
    (lines_to (begun_at (pairs_of bs)) (drop 16 bs) (records_in (drop 16 bs)) ++ ending (drop 16 bs))
    bad_setup_line)
