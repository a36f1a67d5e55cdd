-- `Slot::fresh` gives the slot of the definition, field by field.
use Rattle.rules.specs.Fresh.{fresh_slot, fresh_older}
use Rattle.rules.proofs.Slot.fresh.Goals as goal

pub returns : goal.returns
unfolding fresh_slot fresh_older
returns c = cc
