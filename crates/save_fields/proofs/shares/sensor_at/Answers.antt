-- Byte by byte.
use Rattle.save_rules.specs.Form.{sensor_from}
use Rattle.save_fields.proofs.shares.sensor_at.Goals as goal

pub returns : goal.returns
unfolding sensor_from
returns c = cc
