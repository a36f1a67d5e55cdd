-- What came is cut where the setup and the number of places end, and what each way puts is what is written for it.
use native.Mathlib.Omega.{arith}
use mathlib.Core.Path.{◌∙◌}
use Rattle.list.proofs.Whole.{first-of, stopped, answered}
use Rattle.list.proofs.written.Goals as goal

pub returns-in-Ok : goal.returns-in-Ok
returns-in-Ok c = answered _ _ _ _ _ _ _ _ (c.min-head.ensures ∙ first-of 16 c.args.input.now) (c.min-places.ensures ∙ first-of 18 c.args.input.now) c.in-Ok.ensures (omega arith) c.answer.ensures

pub returns-in-Err : goal.returns-in-Err
returns-in-Err c = stopped _ _ _ _ _ (c.min-head.ensures ∙ first-of 16 c.args.input.now) c.in-Err.ensures (omega arith)
