-- Its letter, and its number in decimal.
use mathlib.Core.Path.{◌∙◌}
use native.Mathlib.Omega.{arith}
use Rattle.script_text.proofs.letters.Laws.{number_by, number-room}
use Rattle.script_text.proofs.letters.put_number.Goals as goal

pub put_decimal-requires : goal.put_decimal-requires
put_decimal-requires c = omega (arith, number-room _ _ (c.from-2.ensures ∙ c.from.ensures))

pub returns : goal.returns
returns c = number_by _ _ _ _ _ c.args.out.now _ _ (c.from-2.ensures ∙ c.from.ensures) c.put-end.ensures c.put_decimal.ensures
