-- `Sensor::fresh` gives the sensor of the definition, field by field.
use Rattle.std.proofs.Common.{refl}
use Rattle.rules.specs.Fresh.{fresh_sensor}
use Rattle.rules.proofs.Sensor.fresh.Goals as goal

pub returns : goal.returns
unfolding fresh_sensor
returns c = refl
