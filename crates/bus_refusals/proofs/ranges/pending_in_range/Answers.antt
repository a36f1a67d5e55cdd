-- Test by test, in the order of the definition.
use Rattle.rules.specs.Modelled.{sensing}
use Rattle.rules.specs.Refusals.{pending_in_range}
use Rattle.bus_refusals.proofs.ranges.pending_in_range.Goals as goal

pub returns : goal.returns
unfolding pending_in_range sensing
returns c = rw (c.has_sensor.ensures, c.can_pend.ensures)
