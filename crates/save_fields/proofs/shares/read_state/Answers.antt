-- Byte by byte.
use Rattle.rules.specs.Open.{open-fields}
use Rattle.save_rules.specs.Form.{state_from}
use Rattle.save_fields.proofs.shares.read_state.Goals as goal

pub returns : goal.returns
unfolding state_from open-fields
returns c = rw (c.bits_in-protection.ensures, c.byte_at.ensures, c.byte_at-2.ensures, c.byte_at-3.ensures, c.byte_at-4.ensures)
