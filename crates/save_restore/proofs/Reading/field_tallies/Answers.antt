-- There, or not.
use Rattle.std.proofs.Common.{sym, ◌∙◌}
use Rattle.save_restore.proofs.Laws.{field-there, field-none}
use Rattle.save_restore.proofs.Reading.field_tallies.Goals as goal

pub head_tallies-requires : goal.head_tallies-requires
head_tallies-requires c = sym c.is_there.ensures ∙ c.if-is_there.true

pub shares_tally-requires : goal.shares_tally-requires
shares_tally-requires c = sym c.is_there.ensures ∙ c.if-is_there.true

pub returns-then-is_there : goal.returns-then-is_there
returns-then-is_there c = field-there _ _ _ _ _ _ c.is_there.ensures c.if-is_there.true c.head_tallies.ensures c.shares_tally.ensures

pub returns : goal.returns
returns c = field-none _ _ _ _ c.is_there.ensures c.if-is_there.false
