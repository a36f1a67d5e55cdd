-- What is written lies in the output.
use native.Mathlib.Omega.{arith}
use Rattle.script_turns.proofs.frame.Onward.{begin-onward}
use Rattle.script_streams.proofs.opening.begin.Goals as goal

pub write-requires : goal.write-requires
write-requires g c = omega (arith, begin-onward _ _ _ _ c.in-Err.ensures (omega arith))
