-- One share more at each turn.
use Rattle.std.proofs.Common.{◌≡◌, ◌+◌, ◌≤◌, length}
use Rattle.std.proofs.lemmas.List.Edits.{sets}
use Rattle.rules.specs.Modelled.{slot_count}
use Rattle.save_rules.specs.Form.{shares}
use Rattle.save_fields.specs.Rows.{row_of}
use Rattle.save_entry.proofs.Bench.put_shares.Given as goal

abbrev pub invariant-loop-i : goal.invariant-loop-i
invariant-loop-i l = record {
  room : l.at + length (shares (row_of l.field) slot_count l.self.slots l.self.memory.now) ≤ length l.initial.out;
  end : l.end ≡ l.at + length (shares (row_of l.field) l.i l.self.slots l.self.memory.now);
  put : l.out ≡ sets l.initial.out l.at (shares (row_of l.field) l.i l.self.slots l.self.memory.now);
}
