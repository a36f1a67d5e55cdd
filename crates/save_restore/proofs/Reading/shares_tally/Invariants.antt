-- One share more at each turn.
use Rattle.std.proofs.Common.{◌≡◌, true}
use Rattle.save_rules.specs.Form.{is_there}
use Rattle.save_rules.specs.Reading.{place}
use Rattle.save_fields.specs.Rows.{row_of}
use Rattle.save_restore.specs.Tallied.{shares_tally}
use Rattle.save_restore.proofs.Reading.shares_tally.Given as goal

abbrev pub invariant-loop-s : goal.invariant-loop-s
invariant-loop-s l = record {
  there : is_there (row_of l.field) l.self.slots ≡ true;
  at : l.at ≡ place (row_of l.field) l.s-index l.self.slots;
  tallied : l.ok ≡ shares_tally (row_of l.field) l.s-index l.self.slots l.self.form.now;
}
