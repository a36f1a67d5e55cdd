-- One slot more at each turn.
use Rattle.std.proofs.Common.{◌≡◌, length}
use Rattle.proof_lists.specs.Each.{map_to}
use Rattle.save_rules.specs.Reading.{place}
use Rattle.save_fields.specs.Rows.{row_of}
use Rattle.save_restore.proofs.Laws.{read_by}
use Rattle.save_restore.proofs.read_shares.Given as goal

abbrev pub invariant-loop-i : goal.invariant-loop-i
invariant-loop-i l = record {
  at : l.at ≡ place (row_of l.field) l.i l.slots;
  long : length l.all ≡ 8;
  read : l.all ≡ map_to (read_by (row_of l.field) l.form l.slots) 0 l.i l.slots;
}
