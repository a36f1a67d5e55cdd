-- Document 01, "The script program": how it begins and how it ends, on the bytes that were read and the buffers that are lent. What a step has
-- written is the front of the output, as far as its end says.
-- Assumes nothing.
use Rattle.std.specs.Prelude.{ℕ, Bool, not, cond, ◌&&◌, List, [], ◌∷◌, eqb, ltb, length, replicate, Result, Ok, Err}
use Rattle.std.proofs.lemmas.List.Edits.{sets}
use Rattle.std.specs.List.{list_all}
use Rattle.rules.specs.Modelled.{memory_bytes}
use Rattle.rules.specs.Refusals.{good_pair, setup_of}
use Rattle.rules.specs.Runs.{Bench}
use Rattle.bus_bench.specs.Beginning.{begun}
use Rattle.script_text.specs.Records.{pairs_of}
use Rattle.script_text.specs.Letters.{short_line}

-- "A bad setup gives `R5` alone."
abbrev pub bad_setup_line : List ℕ
bad_setup_line = 0x52 ∷ 0x35 ∷ 0x0A ∷ []

-- "Memory starts as FFh."
unfoldable pub starting_memory : List ℕ
starting_memory = replicate memory_bytes 0xFF

-- "An incomplete setup": fewer bytes than eight pairs have
unfoldable pub cut_setup : List ℕ → Bool
cut_setup bs = ltb (length bs) 16

-- "A bad setup gives `R5` alone. An incomplete setup or record gives the last line `short`."
unfoldable pub first_line : List ℕ → List ℕ
first_line bs = cond (cut_setup bs) short_line (cond (list_all good_pair (pairs_of bs)) [] bad_setup_line)

-- records follow a whole and good setup alone
unfoldable pub goes_on : List ℕ → Bool
goes_on bs = not (cut_setup bs) && list_all good_pair (pairs_of bs)

-- the beginning, from the bytes that were read as setup: the bench, or where the line ends; then the output
unfoldable pub begin_of : List ℕ → List ℕ → Result Bench ℕ × List ℕ
begin_of bs out =
    (cond (goes_on bs) (Ok (begun (setup_of (pairs_of bs)).bus)) (Err (length (first_line bs))), sets out 0 (first_line bs))

-- so many bytes of a record came
unfoldable pub last_line : ℕ → List ℕ
last_line n = cond (eqb n 0) [] short_line

-- the input's end, where so many bytes are held: how much is written, and the output
unfoldable pub finish_of : ℕ → List ℕ → ℕ × List ℕ
finish_of held out = (length (last_line held), sets out 0 (last_line held))
