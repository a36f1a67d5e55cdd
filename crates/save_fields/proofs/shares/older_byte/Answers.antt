-- Two bits.
use Rattle.save_rules.specs.Form.{older_byte}
use Rattle.save_fields.proofs.shares.older_byte.Goals as goal

pub returns : goal.returns
unfolding older_byte
returns c = c.bits.ensures.0
