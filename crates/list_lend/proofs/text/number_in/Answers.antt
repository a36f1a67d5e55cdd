-- Two bytes, the high one first.
use Rattle.std.proofs.Common.{arith}
use Rattle.list_lend.specs.Listed.{number_in}
use Rattle.list_lend.proofs.text.number_in.Goals as goal

pub returns : goal.returns
unfolding number_in
returns c = (omega arith, omega arith)
