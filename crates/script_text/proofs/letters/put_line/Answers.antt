-- The answer, and the line's end behind it.
use native.Mathlib.Omega.{arith}
use Rattle.script_text.proofs.letters.Laws.{answer-length, line-by}
use Rattle.script_text.proofs.letters.put_line.Goals as goal

pub put-requires : goal.put-requires
put-requires c = omega (arith, answer-length c.args.a)

pub returns : goal.returns
returns c = line-by _ _ _ _ _ _ _ c.put_answer-end.ensures c.put.ensures
