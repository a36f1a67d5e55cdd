-- A refusal's line is as long as an answer's.
use Rattle.capture_pieces.proofs.text.Laws.{not-checked-by}
use Rattle.capture_pieces.proofs.text.put_verdict.Goals as goal

pub returns-in-Refused : goal.returns-in-Refused
returns-in-Refused c = not-checked-by _ _ _ _ _ c.in-Refused.is c.put_line.ensures
