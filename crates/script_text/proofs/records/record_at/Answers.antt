-- The four bytes of the record.
use mathlib.Core.Path.{◌∙◌}
use Prim.Native.Nat.{◌+◌}
use Rattle.script_text.specs.Records.{record_at}
use Rattle.bus_sensor.proofs.temperature.Signed.{back}
use Rattle.script_text.proofs.records.Laws.{value-signed}
use Rattle.script_text.proofs.records.record_at.Goals as goal

pub returns : goal.returns
unfolding record_at
returns c = rw (back c.from_be_bytes.result c.from_be_bytes.type_inv, c.from_be_bytes.ensures ∙ value-signed _ _ (c.type_inv.bytes (c.args.at + 2)).fits (c.type_inv.bytes (c.args.at + 3)).fits)
