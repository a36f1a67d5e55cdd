-- The element at the place, if it has one.
use borrow.Author.Rules.{rules}
use Rattle.watch_text.proofs.numbers.Laws.{sixty-at}
use Rattle.watch_text.proofs.numbers.number.Goals as goal

pub returns : goal.returns
returns c = search (rules, sixty-at)
