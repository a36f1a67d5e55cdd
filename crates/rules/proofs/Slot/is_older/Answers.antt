use Rattle.std.proofs.Common.{rules}
use Rattle.rules.specs.Modelled.{older}
use Rattle.rules.proofs.Slot.is_older.Goals as goal

pub returns : goal.returns
unfolding older
returns c = search rules
