-- Nothing held, or something.
use Rattle.script_turns.proofs.frame.Laws.{finish-none, finish-short}
use Rattle.script_turns.proofs.frame.finish.Goals as goal

pub returns-then-held-eq0 : goal.returns-then-held-eq0
returns-then-held-eq0 c = finish-none _ _ c.if-held-eq0.true

pub returns : goal.returns
returns c = finish-short _ _ _ _ c.if-held-eq0.false c.put_short.ensures
