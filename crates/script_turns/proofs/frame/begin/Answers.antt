-- A setup that is cut, and a whole one, good or bad.
use Rattle.script_turns.proofs.frame.Laws.{begin-cut, begin-good, begin-bad}
use Rattle.script_turns.proofs.frame.begin.Goals as goal

pub returns-then-bytes-lt16 : goal.returns-then-bytes-lt16
returns-then-bytes-lt16 c = begin-cut _ _ _ _ c.if-bytes-lt16.true c.put_short.ensures

pub returns-in-Ok : goal.returns-in-Ok
returns-in-Ok c = begin-good _ _ _ c.if-bytes-lt16.false (rw c.pairs.ensures at c.in-Ok.ensures)

pub returns-in-Err : goal.returns-in-Err
returns-in-Err c = begin-bad _ _ _ _ _ c.if-bytes-lt16.false (rw c.pairs.ensures at c.in-Err.ensures) c.put_line.ensures
