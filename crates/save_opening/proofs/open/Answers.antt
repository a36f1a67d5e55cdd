-- What is written lies in the output.
use native.Mathlib.Omega.{arith}
use Rattle.save_opening.proofs.Onward.{begin-onward}
use Rattle.save_opening.proofs.open.Goals as goal

pub write-requires : goal.write-requires
write-requires g c = omega (arith, begin-onward _ _ _ _ _ c.in-Err.ensures (omega arith))
