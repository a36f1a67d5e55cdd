-- The slot at n, or none.
use Rattle.std.proofs.Common.{arith}
use Rattle.std.proofs.lemmas.Grind.{common_steps}
use Rattle.std.proofs.lemmas.Option.{gets}
use lib.ListN.{get_or-map}
use Rattle.rules.specs.Refusals.{kind_at}
use Rattle.bus_refusals.proofs.ruling.kind_at.Goals as goal

pub returns : goal.returns
unfolding kind_at
returns c = grind (arith, common_steps, gets, get_or-map)
