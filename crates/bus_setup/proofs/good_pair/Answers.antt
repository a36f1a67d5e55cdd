-- The tests of the definition.
use mathlib.Core.Path.{refl}
use Rattle.rules.specs.Refusals.{good_length, good_pair}
use Rattle.bus_setup.proofs.good_pair.Goals as goal

pub returns : goal.returns
unfolding good_pair good_length
returns c = refl
