-- Test by test, in the order of the definition.
use Rattle.rules.specs.Refusals.{kind_in_range, slot_in_range}
use Rattle.bus_refusals.proofs.ranges.slot_in_range.Goals as goal

pub returns : goal.returns
unfolding slot_in_range kind_in_range
returns c = let p = c in rw (p.length_in_range.ensures, p.sensor_in_range.ensures, p.pending_in_range.ensures, c.older_in_range.ensures)
