-- Each part behind the one before it.
use native.Mathlib.Omega.{arith}
use Rattle.script_text.proofs.letters.Laws.{answer-length}
use Rattle.capture_pieces.proofs.text.Laws.{usize-digits, seen-length, difference-most, difference-by}
use Rattle.capture_pieces.proofs.text.put_difference.Goals as goal

pub put_decimal-number-requires : goal.put_decimal-number-requires
put_decimal-number-requires c = let a = c.args in omega (arith, usize-digits a.n (omega arith))

pub put-first-requires : goal.put-first-requires
put-first-requires c = let a = c.args in omega (arith, usize-digits a.n (omega arith))

pub put_answer-answer-requires : goal.put_answer-answer-requires
put_answer-answer-requires c = let a = c.args in omega (arith, usize-digits a.n (omega arith))

pub put-second-requires : goal.put-second-requires
put-second-requires c = let a = c.args in omega (arith, usize-digits a.n (omega arith), answer-length a.model)

pub put_seen-end-requires : goal.put_seen-end-requires
put_seen-end-requires c = let a = c.args in omega (arith, usize-digits a.n (omega arith), answer-length a.model)

pub put-requires : goal.put-requires
put-requires c = let a = c.args in omega (arith, usize-digits a.n (omega arith), answer-length a.model, seen-length a.seen (omega arith))

pub returns : goal.returns
returns c = let a = c.args in let p = difference-by _ _ _ a.out.now _ _ _ _ _ _ _ _ _ _ _ _ c.put_decimal-number.ensures c.put-first.ensures c.put_answer-answer.ensures c.put-second.ensures c.put_seen-end.ensures c.put.ensures in (p.0, p.1, omega (arith, difference-most a.n a.model a.seen (omega arith) (omega arith)))
