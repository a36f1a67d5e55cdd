-- The resume program: what it writes for what it reads.
-- Assumes nothing.
use Rattle.std.specs.Prelude.{ℕ, cond, List, ◌++◌}
use Rattle.rules.specs.Runs.{Bench}
use Rattle.script_turns.specs.Frame.{starting_memory}
use Rattle.script_turns.specs.Script.{lines_to, records_in, ending}
use Rattle.save_rules.specs.Reading.{accepted, restored}
use Rattle.save_opening.specs.Opening.{bad_form_line, opened_by}

-- "memory is FFh before the restore; standard output is a line for each record as the script has it, `R10` alone for a form that is refused, whatever
-- follows, `short` as in the script": what is written for a form and the bytes behind it
unfoldable pub resumed : List ℕ → List ℕ → List ℕ
resumed form more =
    let x : Bench = restored form starting_memory in
    cond (accepted form starting_memory) (lines_to x more (records_in more) ++ ending more) bad_form_line

-- all that the program writes, for all that it reads
unfoldable pub written_for : List ℕ → List ℕ
written_for = opened_by resumed
