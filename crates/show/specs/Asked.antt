-- The show program: what it writes for what it reads.
-- Assumes nothing.
use Rattle.std.specs.Prelude.{ℕ, cond, List}
use Rattle.script_turns.specs.Frame.{starting_memory}
use Rattle.save_rules.specs.Reading.{accepted, restored}
use Rattle.save_opening.specs.Opening.{bad_form_line, opened_by}
use Rattle.watch_streams.specs.Texts.{watched_text}

-- for a form and the bytes behind it: what `watch` has behind a setup, from the bench that the form restores to; or `R10`
unfoldable pub shown : List ℕ → List ℕ → List ℕ
shown form more = cond (accepted form starting_memory) (watched_text (restored form starting_memory) more) bad_form_line

-- all that the program writes, for all that it reads: it begins as `resume` does
unfoldable pub written_for : List ℕ → List ℕ
written_for = opened_by shown
