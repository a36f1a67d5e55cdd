-- The three tests.
use Rattle.save_rules.specs.Saving.{quiet}
use Rattle.save_entry.proofs.Laws.{idle_same}
use Rattle.save_entry.proofs.quiet.Goals as goal

pub returns : goal.returns
unfolding quiet
returns c = rw (c.is_absent.ensures, c.eq.ensures, idle_same c.args.s.now.phase)
