-- By the kind.
use borrow.Author.Rules.{rules}
use Rattle.script_text.specs.Quoted.{quoted}
use Rattle.watch_text.specs.Lines.{pin_names, older_names, kind_names, texts_of}
use Rattle.watch_text.proofs.lines.put_own.Goals as goal

pub put_texts-requires : goal.put_texts-requires
unfolding pin_names kind_names quoted
put_texts-requires c = search rules

pub put_texts-requires-then-is_older : goal.put_texts-requires-then-is_older
unfolding older_names kind_names quoted
put_texts-requires-then-is_older c = search rules

pub returns-then-has_sensor : goal.returns-then-has_sensor
unfolding pin_names kind_names quoted
returns-then-has_sensor c = search rules

pub returns-then-is_older : goal.returns-then-is_older
unfolding older_names kind_names quoted
returns-then-is_older c = search rules

pub returns-else-is_older : goal.returns-else-is_older
unfolding kind_names texts_of
returns-else-is_older c = search rules
