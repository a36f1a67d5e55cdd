-- `stands` meets its contract.
use mathlib.Core.Path.{ap}
use mathlib.Core.Bool.{Bool, ◌&&◌}
use lib.Dec.{eqb}
use Rattle.list_entry.specs.Lists.{standing}
use Rattle.rules.specs.Refusals.{in_range}
use Rattle.list_entry.proofs.stands.Goals as goal

pub returns : goal.returns
unfolding standing in_range
returns c = ap (λ (q : Bool). eqb c.args.bytes 4096 && q) c.in_range.ensures
