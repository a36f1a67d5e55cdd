-- A present slot's state, and an absent one's.
use Rattle.std.proofs.Common.{sym}
use Rattle.save_fields.proofs.Open.{table}
use Rattle.save_fields.proofs.shares.Field.size.Goals as goal

pub returns-in-State : goal.returns-in-State
unfolding table
returns-in-State c = rw (c.in-State.is, sym c.if-not-is_absent-2.ensures)

pub returns-in_default-2 : goal.returns-in_default-2
unfolding table
returns-in_default-2 c = rw (c.in-State.is, sym c.if-not-is_absent-2.ensures)
