-- One field more at each turn.
use Rattle.std.proofs.Common.{◌≡◌}
use Rattle.save_rules.specs.Reading.{read_to}
use Rattle.save_restore.proofs.read_form.Given as goal

abbrev pub invariant-loop-field : goal.invariant-loop-field
invariant-loop-field l = l.bus ≡ record { slots = read_to l.field-index l.form }
