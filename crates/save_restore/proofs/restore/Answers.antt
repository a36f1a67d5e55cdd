-- The rows 1 and 10 in their order; then what the form restores to.
use Rattle.save_restore.proofs.Laws.{restore-memory, restore-long, restore-departs, restore-accepts}
use Rattle.save_restore.proofs.restore.Goals as goal

pub returns-then-memory-ne-MEMORY : goal.returns-then-memory-ne-MEMORY
returns-then-memory-ne-MEMORY c = search restore-memory

pub returns-then-form-form_length : goal.returns-then-form-form_length
returns-then-form-form_length c = search restore-long

pub returns-then-not-in_range-tallies : goal.returns-then-not-in_range-tallies
returns-then-not-in_range-tallies c = search restore-departs

pub returns : goal.returns
returns c = search restore-accepts
