-- A bundle of definitions, for `unfolding` lines: to unfold a bundle is to unfold what its own line names.
-- Assumes nothing.
use Rattle.rules.specs.Open.{open-all}
use Rattle.script_text.specs.Open.{open-text}
use Rattle.capture_rules.specs.Agreement
use Rattle.capture_rules.specs.Capture

-- everything: the verdict on known bytes computes
unfoldable pub open-capture : Unit {0}
unfolding open-all open-text Capture.captured_at Capture.captured_to Capture.captured_in Capture.left_over Capture.agrees Capture.verdict_from
    Capture.closed Capture.start_of Capture.verdict_of Agreement.code_of Agreement.as_seen Agreement.meant Agreement.record_of Agreement.model_of
    Agreement.seen_of Agreement.is_accepted Agreement.is_short Agreement.verdict_number
open-capture = tt
