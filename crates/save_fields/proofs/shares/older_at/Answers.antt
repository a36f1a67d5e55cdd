-- Two bits.
use Rattle.save_rules.specs.Form.{bits_in, older_from}
use Rattle.save_fields.proofs.shares.older_at.Goals as goal

pub returns : goal.returns
unfolding older_from bits_in
returns c = rw (c.bits_in.ensures, c.byte_at.ensures)
