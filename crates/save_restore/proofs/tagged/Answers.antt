-- The byte where it would begin, and its tag.
use Rattle.save_restore.proofs.Laws.{tagged-by}
use Rattle.save_restore.proofs.tagged.Goals as goal

pub returns : goal.returns
returns c = tagged-by _ _ _ _ _ _ c.begins.ensures c.byte_at.ensures c.tag.ensures
