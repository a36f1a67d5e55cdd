-- `temperature::converted`: the reading of the stepped number in its place.
use Rattle.rules.specs.Fields.{with_temperature}
use Rattle.rules.specs.Sensor.{shut_down, stepped_of, converted}
use Rattle.bus_sensor.proofs.temperature.Signed.{back, wide_back}
use Rattle.bus_sensor.proofs.temperature.converted.Goals as goal

pub returns : goal.returns
unfolding with_temperature shut_down stepped_of converted
returns c =
    let t = c.stepped-t in
    rw (c.reading.ensures, wide_back t.result t.type_inv, t.ensures, back c.args.given c.ranges.given.sfits, ← c.bit.ensures, c.if-bit.false)
