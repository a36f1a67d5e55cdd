-- A bundle of definitions, for `unfolding` lines: to unfold a bundle is to unfold what its own line names.
-- Assumes nothing.
use Rattle.proof_lists.specs.Same
use Rattle.rules.specs.Open.{open-all}
use Rattle.script_text.specs.Open.{open-text}
use Rattle.watch_text.specs.Lines
use Rattle.watch_text.specs.Numbers

-- lines of known slots compute
unfoldable pub open-lines : Unit {0}
unfolding open-all open-text Same.same Numbers.bit Numbers.phase_number Numbers.plain_numbers Numbers.sensor_numbers Numbers.pin_numbers
    Numbers.older_numbers Numbers.kind_numbers Numbers.numbers_of Lines.common_names Lines.pin_names Lines.older_names Lines.kind_names Lines.names
    Lines.number_text Lines.number_texts Lines.slot_line Lines.change_line Lines.change_lines_to Lines.change_lines Lines.bench_lines
open-lines = tt
