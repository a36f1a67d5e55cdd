-- A number that is at most 1.
use Rattle.std.proofs.Common.{arith, ap, Ok, eqb, ℕ, ◌∙◌}
use Rattle.bus_sensor.proofs.temperature.Signed.{back}
use Rattle.bus_refusals.proofs.ruling.Laws.{err-by, ok-by, switched}
use Rattle.bus_refusals.proofs.ruling.switch.Goals as goal

pub returns-in_err-number : goal.returns-in_err-number
returns-in_err-number c =
    let is = rw (back c.args.v (omega arith)) at c.number.ensures in
    err-by _ _ _ is _ _ _ c.in_err-number.was c.from_residual.ensures.1

pub returns : goal.returns
returns c =
    let is = rw (back c.args.v (omega arith)) at c.number.ensures in
    let ok = ok-by _ _ _ is _ c.in_ok-number.was in
    rw ok.0 (ap Ok (ap (λ (n : ℕ). eqb n 1) ok.1 ∙ switched c.args.v ok.0))
