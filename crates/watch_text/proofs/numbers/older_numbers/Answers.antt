-- Three bits.
use mathlib.Core.Path.{refl}
use mathlib.Core.Bool.{false}
use borrow.Author.Rules.{rules}
use Rattle.watch_text.specs.Numbers.{bit, older_numbers}
use Rattle.watch_text.proofs.numbers.Laws.{mapped}
use Rattle.watch_text.proofs.numbers.older_numbers.Goals as goal

pub returns : goal.returns
unfolding older_numbers bit
returns c = mapped _ bit _ (λ x y q k. search rules) _ _ 3 false refl c.map.ensures.items
