-- The two cases of the definition, by the kind.
use borrow.Author.Tests.{eq-eqb, ne_eqb}
use Rattle.rules.specs.Fresh.{setup_slot}
use Rattle.bus_setup.proofs.setup_slot.Goals as goal

pub returns-then-p-eq0 : goal.returns-then-p-eq0
unfolding setup_slot
returns-then-p-eq0 c = rw (eq-eqb _ _ c.if-p-eq0.true, c.fresh.ensures)

pub returns : goal.returns
unfolding setup_slot
returns c = rw (ne_eqb _ _ c.if-p-eq0.false, c.fresh-2.ensures)
