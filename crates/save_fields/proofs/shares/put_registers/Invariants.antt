-- After each turn one register more is put.
use Rattle.std.proofs.Common.{◌≡◌, ◌+◌, ◌≤◌, length}
use Rattle.std.proofs.lemmas.List.Edits.{sets}
use Rattle.save_rules.specs.Form.{registers_to}
use Rattle.save_fields.proofs.shares.put_registers.Given as goal

abbrev pub invariant-loop-register : goal.invariant-loop-register
invariant-loop-register l = record {
  room : l.at + 14 ≤ length l.initial.out;
  end : l.end ≡ l.at + length (registers_to l.register-index l.x);
  put : l.out ≡ sets l.initial.out l.at (registers_to l.register-index l.x);
}
