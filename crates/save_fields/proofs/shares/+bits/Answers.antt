-- None, or one before the others.
use Rattle.save_fields.proofs.shares.Laws.{bits-none, bits-more}
use Rattle.save_fields.proofs.shares.+bits.Goals as goal

pub returns-in-empty : goal.returns-in-empty
returns-in-empty t c = bits-none _ c.in-empty.len_below

pub returns-in-len1-up : goal.returns-in-len1-up
returns-in-len1-up t c = bits-more _ _ _ c.in-len1-up.len_at_least c.from.ensures c.bits.ensures
