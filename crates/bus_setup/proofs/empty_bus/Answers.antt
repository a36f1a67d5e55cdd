-- Eight absent slots.
use Rattle.rules.specs.Fresh.{absent_slot}
use Rattle.rules.specs.Refusals.{empty_bus}
use Rattle.bus_setup.proofs.empty_bus.Goals as goal

pub returns : goal.returns
unfolding empty_bus absent_slot
returns c = rw c.fresh-slots.ensures
