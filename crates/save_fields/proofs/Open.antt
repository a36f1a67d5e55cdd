-- A bundle of definitions, for `unfolding` lines and attributes: the table of fields, row by row.
-- Assumes nothing.
use Rattle.rules.specs.Modelled.{absent, sensing, older, bytes_of}
use Rattle.save_rules.specs.Form.{setup_field, memory_field, state_bytes, state_field, sensor_field, pending_field, older_field, fields, field_at, share_of}

unfoldable pub table : Unit {0}
unfolding absent sensing older bytes_of setup_field memory_field state_bytes state_field sensor_field pending_field older_field fields field_at share_of
table = tt
