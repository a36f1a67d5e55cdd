-- The rows in their order.
use Rattle.std.proofs.Common.{arith, sym, ◌∙◌}
use Rattle.bus_sensor.proofs.temperature.Signed.{back}
use Rattle.bus_refusals.proofs.ruling.Laws.{decoded, decoded-unknown, ruled-unknown, ruled-slot, ruled-value}
use Rattle.bus_refusals.proofs.ruling.ruled.Goals as goal

pub returns-in_err-what : goal.returns-in_err-what
returns-in_err-what c = ruled-unknown c.args.kind c.args.e _ _ (decoded-unknown c.args.e.kind _ c.in_err-what.ensures) c.from_residual.ensures.1

pub returns-then-wrong_slot : goal.returns-then-wrong_slot
returns-then-wrong_slot c = ruled-slot c.args.kind _ c.args.e (decoded c.args.e.kind _ c.in_ok-what.ensures) (sym c.wrong_slot.ensures ∙ c.if-wrong_slot.true)

pub returns : goal.returns
returns c =
    let is = rw (back c.args.e.value (omega arith)) at c.act.ensures in
    is ∙ ruled-value c.args.kind _ c.args.e (decoded c.args.e.kind _ c.in_ok-what.ensures) (sym c.wrong_slot.ensures ∙ c.if-wrong_slot.false)
