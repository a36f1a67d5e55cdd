-- What `watch` writes, for all that it reads: the script's lines, and with them the lines of the slots.
-- Assumes nothing.
use Rattle.std.specs.Prelude.{ℕ, cond, List, ltb, length, drop}
use Rattle.std.specs.List.{list_all}
use Rattle.rules.specs.Refusals.{good_pair}
use Rattle.script_text.specs.Records.{pairs_of}
use Rattle.script_text.specs.Letters.{short_line}
use Rattle.script_turns.specs.Frame.{bad_setup_line}
use Rattle.script_turns.specs.Script.{begun_at}
use Rattle.watch_streams.specs.Texts.{watched_text}

-- all that the program writes, for all that it reads: from the bench that the setup makes on; a cut setup and a bad one are told as the script tells
-- them
unfoldable pub watch_of : List ℕ → List ℕ
watch_of bs =
    cond (ltb (length bs) 16) short_line
    (cond (list_all good_pair (pairs_of bs)) (watched_text (begun_at (pairs_of bs)) (drop 16 bs)) bad_setup_line)
