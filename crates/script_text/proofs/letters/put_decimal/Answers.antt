-- What the buffer holds are the number's digits.
use mathlib.Core.Path.{◌∙◌}
use Rattle.script_text.proofs.letters.Decimal.{decimal-std}
use Rattle.script_text.proofs.letters.put_decimal.Goals as goal

pub put-requires : goal.put-requires
put-requires c = rw (c.as_bytes.ensures.value ∙ c.format.ensures.text ∙ decimal-std c.args.n c.ranges.n.fits) c.requires

pub returns : goal.returns
returns c = rw (← (c.as_bytes.ensures.value ∙ c.format.ensures.text ∙ decimal-std c.args.n c.ranges.n.fits)) c.put.ensures
