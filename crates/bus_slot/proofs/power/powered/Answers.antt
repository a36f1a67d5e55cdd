-- A fresh slot with the protection, the voltage and the pin.
use Rattle.rules.specs.Fresh.{fresh_older, fresh_slot, powered}
use Rattle.rules.specs.Open.{open-fields}
use Rattle.bus_slot.proofs.power.powered.Goals as goal

pub returns : goal.returns
unfolding powered fresh_slot fresh_older open-fields
returns c = rw c.fresh-fresh.ensures
