-- The definition's seven tests, joined.
use mathlib.Core.Path.{refl}
use Rattle.rules.specs.Refusals.{kept_in, sensor_in_range}
use Rattle.bus_refusals.proofs.ranges.sensor_in_range.Goals as goal

pub returns : goal.returns
unfolding kept_in sensor_in_range
returns c = refl
