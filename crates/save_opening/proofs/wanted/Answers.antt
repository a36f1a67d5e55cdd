-- A length that is cut, one that is too large, and any other.
use Rattle.save_opening.proofs.Laws.{wanted-cut, wanted-none, wanted-all}
use Rattle.save_opening.proofs.wanted.Goals as goal

pub returns-then-head-lt4 : goal.returns-then-head-lt4
returns-then-head-lt4 c = search wanted-cut

pub returns-then-size-gt-MOST : goal.returns-then-size-gt-MOST
returns-then-size-gt-MOST c = wanted-none _ _ c.if-head-lt4.false c.form_bytes-size.ensures c.if-size-gt-MOST.true

pub returns : goal.returns
returns c = wanted-all _ _ c.if-head-lt4.false c.form_bytes-size.ensures c.if-size-gt-MOST.false
