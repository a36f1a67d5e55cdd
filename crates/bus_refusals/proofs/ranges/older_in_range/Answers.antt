-- Test by test, in the order of the definition.
use Rattle.rules.specs.Modelled.{older}
use Rattle.rules.specs.Refusals.{older_in_range}
use Rattle.bus_refusals.proofs.ranges.older_in_range.Goals as goal

pub returns : goal.returns
unfolding older_in_range older
returns c = rw c.is_older.ensures
