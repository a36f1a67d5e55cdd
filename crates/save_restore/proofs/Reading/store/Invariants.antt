-- One slot more at each turn.
use Rattle.std.proofs.Common.{◌≡◌, length}
use Rattle.rules.specs.Modelled.{memory_bytes}
use Rattle.save_rules.specs.Reading.{place, memory_row, stored_to}
use Rattle.save_restore.proofs.Reading.store.Given as goal

abbrev pub invariant-loop-i : goal.invariant-loop-i
invariant-loop-i l = record {
  sized : length l.initial.memory ≡ memory_bytes;
  at : l.at ≡ place memory_row l.i l.self.slots;
  stored : l.memory ≡ stored_to l.i l.self.form.now l.self.slots l.initial.memory;
}
