-- A bundle of definitions, for `unfolding` lines: to unfold a bundle is to unfold what its own line names.
-- Assumes nothing.
use Rattle.script_turns.specs.Open.{open-script}
use Rattle.watch_text.specs.Open.{open-lines}
use Rattle.watch_streams.specs.Texts

-- what is written for known bytes, from a known bench, computes
unfoldable pub open-watch : Unit {0}
unfolding open-script open-lines Texts.record_text Texts.record_texts Texts.bench_text Texts.watched_text
open-watch = tt
