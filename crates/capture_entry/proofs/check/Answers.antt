-- Row 1, row 5, and the records on a copy of the memory.
use Rattle.std.proofs.Common.{sym, ◌∙◌, ap, length, arith}
use Rattle.rules.specs.declared.Outcome.{Outcome}
use Rattle.rules.specs.Refusals.{in_range}
use Rattle.rules.proofs.Range.Kept.{setup-in-range}
use Rattle.capture_rules.proofs.Promise.{at-memory}
use Rattle.capture_entry.proofs.Laws.{bad-setup, good-setup, whole-capture}
use Rattle.capture_entry.proofs.check.Goals as goal

pub returns-in_default : goal.returns-in_default
returns-in_default c = sym (at-memory _ _ _ c.in_default.ensures.1)

pub returns-in-Refused : goal.returns-in-Refused
returns-in-Refused c = bad-setup _ _ c.setup-made.ensures _ _ _ c.in-Refused.is c.in-Ok.ensures.1.long

pub piece-checked-requires : goal.piece-checked-requires
piece-checked-requires c = (ap (λ (o : Outcome). in_range o.bus) c.setup-made.ensures ∙ setup-in-range _, ap length c.in-Ok.ensures.1.same ∙ c.in-Ok.ensures.1.long, omega arith)

pub returns : goal.returns
returns c = whole-capture _ _ _ _ _ _ _ _ c.setup-made.ensures (good-setup _ _ c.setup-made.ensures c.in_default-answer.not-Refused) c.in-Ok.ensures.1.long c.in-Ok.ensures.1.same c.piece-checked.ensures c.closed.ensures
