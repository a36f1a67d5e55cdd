-- The rows 1, 6, 8 and 9 in their order; then the form.
use native.Mathlib.Omega.{arith}
use borrow.Author.Rules.{rules}
use Rattle.save_rules.specs.Form.{field_count}
use Rattle.save_rules.proofs.Places.{length-form}
use Rattle.save_entry.proofs.Laws.{save-memory, save-state, save-busy, save-short, save-form}
use Rattle.save_entry.proofs.save.Goals as goal

pub returns-then-memory-ne-MEMORY : goal.returns-then-memory-ne-MEMORY
returns-then-memory-ne-MEMORY c = search save-memory

pub returns-then-not-in_range : goal.returns-then-not-in_range
returns-then-not-in_range c = search save-state

pub returns-then-not-all_quiet : goal.returns-then-not-all_quiet
returns-then-not-all_quiet c = search save-busy

pub returns-then-buffer-form_length : goal.returns-then-buffer-form_length
returns-then-buffer-form_length c = search save-short

pub put_form-requires : goal.put_form-requires
put_form-requires c = let a = c.args in omega (arith, length-form a.bus.slots a.memory.now (search rules) field_count)

pub returns : goal.returns
returns c = search save-form
