-- One field more at each turn.
use Rattle.std.proofs.Common.{◌≡◌, ◌≤◌, length}
use Rattle.std.proofs.lemmas.List.Edits.{sets}
use Rattle.save_rules.specs.Form.{field_count, form_to}
use Rattle.save_entry.proofs.Bench.put_form.Given as goal

abbrev pub invariant-loop-field : goal.invariant-loop-field
invariant-loop-field l = record {
  room : length (form_to field_count l.self.slots l.self.memory.now) ≤ length l.initial.out;
  end : l.end ≡ length (form_to l.field-index l.self.slots l.self.memory.now);
  put : l.out ≡ sets l.initial.out 0 (form_to l.field-index l.self.slots l.self.memory.now);
}
