-- What is written lies in the output.
use native.Mathlib.Omega.{arith}
use Rattle.script_turns.proofs.frame.Onward.{finish-onward}
use Rattle.script_streams.proofs.reading.Onward.{served-told, served-untold}
use Rattle.script_streams.proofs.reading.serve.Goals as goal

pub write-requires : goal.write-requires
write-requires c = omega (arith, finish-onward _ _ _ _ c.finish-end.ensures (omega arith))

pub returns-in-Ok : goal.returns-in-Ok
returns-in-Ok c = served-told _ _ _ _ _ _ _ c.in-Ok.ensures c.finish-end.ensures

pub returns-in_default : goal.returns-in_default
returns-in_default c = served-untold _ _ _ _ c.in_default.ensures
