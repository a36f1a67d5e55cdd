-- A bundle of definitions, for `unfolding` lines: to unfold a bundle is to unfold what its own line names.
-- Assumes nothing.
use Rattle.rules.specs.Open.{open-all}
use Rattle.script_text.specs.Open.{open-text}
use Rattle.script_turns.specs.Frame
use Rattle.script_turns.specs.Script

-- everything: the script's output for known bytes computes
unfoldable pub open-script : Unit {0}
unfolding open-all open-text Frame.starting_memory Frame.last_line Script.bench_to Script.lines_to Script.records_in Script.ending Script.begun_at
    Script.script_of
open-script = tt
