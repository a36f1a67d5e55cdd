-- `one` meets its contract.
use Rattle.list_entry.proofs.one.Goals as goal

pub event_in_range-requires : goal.event_in_range-requires
event_in_range-requires c = c.requires c.if-stand.true
