-- Read, or left.
use Rattle.save_restore.proofs.Laws.{read-it, leave-it}
use Rattle.save_restore.proofs.read_field.Goals as goal

pub returns-then-not-tagged : goal.returns-then-not-tagged
returns-then-not-tagged c = leave-it _ _ c.args.bus _ c.tagged.ensures c.if-not-tagged.true

pub returns : goal.returns
returns c = read-it _ _ c.args.bus _ _ c.tagged.ensures c.if-not-tagged.false c.read_shares.ensures
