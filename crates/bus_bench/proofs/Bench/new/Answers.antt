-- Every byte of the memory is FFh.
use mathlib.Core.Path.{ap}
use Rattle.bus_bench.specs.Beginning.{begun}
use Rattle.bus_bench.proofs.Bench.new.Goals as goal

pub returns : goal.returns
unfolding begun
returns c = ap (λ m. record { bus = c.args.bus; memory = m }) (c.fill.ensures.after (λ y e. e))
