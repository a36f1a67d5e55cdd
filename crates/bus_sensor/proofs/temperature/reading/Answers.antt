-- `temperature::reading`: the flags and the bits, each by its own function.
use Rattle.rules.specs.Sensor.{reading}
use Rattle.bus_sensor.proofs.temperature.Signed.{wide_back}
use Rattle.bus_sensor.proofs.temperature.reading.Goals as goal

pub returns : goal.returns
unfolding reading
returns c =
    rw (
      c.bits.ensures,
      c.raised-low.ensures,
      c.low_flag.ensures,
      c.raised-high.ensures,
      c.high_flag.ensures,
      c.raised-critical.ensures,
      c.critical_flag.ensures,
      wide_back c.args.t c.ranges.t.sfits,
    )
