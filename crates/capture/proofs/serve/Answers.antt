-- A memory that is cut, or the records' verdict.
use mathlib.Core.Path.{ap, subst}
use native.Mathlib.Omega.{arith}
use Rattle.rules.specs.declared.Bus.{Bus}
use Rattle.rules.specs.Runs.{Bench}
use Rattle.capture.specs.Program.{Ended}
use Rattle.capture.proofs.Onward.{served-short, served-whole}
use Rattle.capture.proofs.serve.Goals as goal

pub returns-then-came-lt-MEMORY : goal.returns-then-came-lt-MEMORY
returns-then-came-lt-MEMORY c = let p = c.put_short in (omega (arith, p.ensures.0), served-short _ c.fill-came.new.room _ _ _ _ (omega arith) c.if-came-lt-MEMORY.true p.ensures)

pub returns : goal.returns
returns c =
    let p = c.put_verdict in
    let v = c.check_records-verdict in
    let e = subst (λ (b : Bus). Ended b c.fill-came.new.room v.result) (ap (λ (x : Bench). x.bus) c.bench.view_is) v.ensures in
    (omega (arith, p.ensures.2), served-whole _ c.fill-came.new.room _ _ _ _ (omega arith) _ c.if-came-lt-MEMORY.false e (p.ensures.0, p.ensures.1))
