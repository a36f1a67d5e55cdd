-- The capture program: what it writes for what it reads.
-- Assumes nothing.
use Rattle.std.specs.Prelude.{ℕ, cond, List, ltb, length, take, drop}
use Rattle.std.specs.List.{list_all}
use Rattle.rules.specs.Refusals.{good_pair}
use Rattle.script_text.specs.Records.{pairs_of}
use Rattle.script_text.specs.Letters.{short_line}
use Rattle.script_turns.specs.Frame.{bad_setup_line}
use Rattle.capture_rules.specs.Capture.{verdict_of}
use Rattle.capture_pieces.specs.Line.{verdict_line}

-- "setup 16 bytes, memory 4,096 bytes, records of six bytes to the end"; "sixteen setup bytes with a bad pair give `R5` whatever follows or is
-- missing. Where the input ends inside setup, memory or a record: the first difference of the whole records if there is one, else `short`."
unfoldable pub written_for : List ℕ → List ℕ
written_for bs =
    cond (ltb (length bs) 16) short_line
    (cond (list_all good_pair (pairs_of bs))
    (cond (ltb (length bs) 4112) short_line (verdict_line (verdict_of (pairs_of bs) (take 4096 (drop 16 bs)) (drop 4112 bs))))
    bad_setup_line)
