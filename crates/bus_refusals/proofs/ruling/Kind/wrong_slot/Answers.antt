-- Kind by kind.
use Rattle.bus_refusals.proofs.ruling.Laws.{wrong-voltage, wrong-temperature, wrong-pin, no-slot}
use Rattle.bus_refusals.proofs.ruling.Kind.wrong_slot.Goals as goal

pub returns-in-Voltage : goal.returns-in-Voltage
returns-in-Voltage c = rw c.in-Voltage.is (wrong-voltage c.args.kind c.args.n)

pub returns-in-Temperature : goal.returns-in-Temperature
returns-in-Temperature c = rw c.in-Temperature.is (wrong-temperature c.args.kind c.args.n)

pub returns-in-WriteProtect : goal.returns-in-WriteProtect
returns-in-WriteProtect c = rw c.in-WriteProtect.is (wrong-pin c.args.kind c.args.n)

pub returns-in_default : goal.returns-in_default
returns-in_default c = no-slot c.args.kind c.args.n c.args.self c.in_default.not-Voltage c.in_default.not-Temperature c.in_default.not-WriteProtect
