-- By the kind.
use borrow.Author.Rules.{rules}
use Rattle.watch_text.specs.Numbers.{pin_numbers, older_numbers, kind_numbers, three}
use Rattle.watch_text.proofs.numbers.kind_numbers.Goals as goal

pub returns-then-has_sensor : goal.returns-then-has_sensor
unfolding pin_numbers kind_numbers three
returns-then-has_sensor c = search rules

pub returns-then-is_older : goal.returns-then-is_older
unfolding older_numbers kind_numbers three
returns-then-is_older c = search rules

pub returns-else-is_older : goal.returns-else-is_older
unfolding kind_numbers three
returns-else-is_older c = search rules
