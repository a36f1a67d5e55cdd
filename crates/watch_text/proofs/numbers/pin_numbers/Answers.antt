-- Three bits.
use mathlib.Core.Path.{refl, ◌∙◌}
use mathlib.Core.Bool.{false}
use borrow.Author.Rules.{rules}
use Rattle.rules.specs.Pin.{pin_of}
use Rattle.watch_text.specs.Numbers.{bit, pin_numbers}
use Rattle.watch_text.proofs.numbers.Laws.{mapped}
use Rattle.watch_text.proofs.numbers.pin_numbers.Goals as goal

pub returns : goal.returns
unfolding pin_numbers bit pin_of
returns c = mapped _ bit _ (λ x y q k. search rules) _ _ 3 false refl c.map.ensures.items ∙ rw c.pin-p.ensures
