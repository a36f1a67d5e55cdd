use Rattle.std.proofs.Common.{rules}
use Rattle.rules.specs.Modelled.{absent}
use Rattle.rules.proofs.Slot.is_absent.Goals as goal

pub returns : goal.returns
unfolding absent
returns c = search rules
