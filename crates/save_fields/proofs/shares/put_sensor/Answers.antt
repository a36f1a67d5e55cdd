-- The pointer, and then the registers.
use Rattle.std.proofs.Common.{[], ◌∷◌}
use Rattle.script_text.proofs.letters.Laws.{put_on}
use Rattle.save_rules.specs.Form.{sensor_bytes, registers_to}
use Rattle.save_fields.proofs.shares.put_sensor.Goals as goal

pub returns : goal.returns
unfolding sensor_bytes
returns c = let a = c.args in put_on a.out.now _ _ a.at _ _ (a.x.pointer ∷ []) (registers_to 7 a.x) c.put-registers.ensures c.put_registers.ensures
