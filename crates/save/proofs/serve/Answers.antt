-- What is written lies in the output.
use native.Mathlib.Omega.{arith}
use Rattle.save.proofs.Laws.{answer-onward}
use Rattle.save.proofs.serve.Goals as goal

pub returns : goal.returns
returns c =
    let a = c.answer.ensures in (
      omega (arith, answer-onward _ _ _ _ _ a (omega arith)),
      record { lines = _; held = c.in-Ok.held; bench = c.run_records.new.bench; left = c.run_records.new.out; ended = c.in-Ok.ensures; answered = a },
    )
