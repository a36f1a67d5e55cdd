-- The places so far are chosen, and the latched ones among them counted.
use Rattle.bus_slot.proofs.power.Laws.{Chosen}
use Rattle.bus_slot.proofs.power.first_of.Given as goal

abbrev pub invariant-loop-mark : goal.invariant-loop-mark
invariant-loop-mark l = Chosen l.k l.fn.marks l.mark-index l.mark-items l.below
