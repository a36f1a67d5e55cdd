-- The two cases of the definition, by the kind.
use Rattle.std.proofs.Common.{sym, ◌∙◌}
use Rattle.rules.specs.Modelled.{absent}
use Rattle.rules.specs.Refusals.{good_length, length_in_range}
use Rattle.bus_refusals.proofs.ranges.length_in_range.Goals as goal

pub returns-then-is_absent : goal.returns-then-is_absent
unfolding length_in_range good_length absent
returns-then-is_absent c = rw (sym c.is_absent.ensures ∙ c.if-is_absent.true)

pub returns : goal.returns
unfolding length_in_range good_length absent
returns c = rw (sym c.is_absent.ensures ∙ c.if-is_absent.false)
