use Rattle.std.proofs.Common.{rules}
use Rattle.rules.specs.Modelled.{sensing}
use Rattle.rules.proofs.Slot.has_sensor.Goals as goal

pub returns : goal.returns
unfolding sensing
returns c = search rules
