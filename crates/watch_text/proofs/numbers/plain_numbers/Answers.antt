-- One by one.
use mathlib.Core.Path.{◌∙◌}
use mathlib.Core.List.{[], ◌∷◌}
use Rattle.watch_text.specs.Numbers.{bit, plain_numbers}
use Rattle.watch_text.proofs.numbers.Laws.{phase-tag, bit-byte}
use Rattle.watch_text.proofs.numbers.plain_numbers.Goals as goal

pub returns : goal.returns
unfolding plain_numbers bit
returns c =
    let p = phase-tag c.args.s.phase in
    λ i. c.from.ensures i ∷ c.from-2.ensures i ∷ c.from-3.ensures i ∷ c.from-4.ensures i ∷ c.from-5.ensures i ∷ c.from-6.ensures i ∷ (c.from-7.ensures ∙ bit-byte _) i ∷ p i ∷ []
