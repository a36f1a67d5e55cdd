use Rattle.std.proofs.Common.{arith}
use Rattle.bus_slots.proofs.foreseen.Laws.{byte-control}
use Rattle.bus_slots.proofs.foreseen.at_control.Goals as goal

pub returns-in-Control : goal.returns-in-Control
returns-in-Control c =
    byte-control c.args.n.0 c.args.s c.args.b c.standing.result _ c.acks_control.result c.standing.ensures c.in-Control.is c.heard_by.ensures c.acks_control.ensures (grind (arith, c.if-not-acks_control.true))
