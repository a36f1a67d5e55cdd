-- The part is as after the turns so far.
use Rattle.std.proofs.Common.{◌≡◌, length}
use Rattle.rules.specs.Memory.{put_up_to}
use Rattle.bus_slot.proofs.cycle.put.Given as goal

abbrev pub invariant-loop-i : goal.invariant-loop-i
invariant-loop-i l = (l.part ≡ put_up_to l.latch l.mark-items l.at l.i l.initial.part) × (length l.part ≡ length l.initial.part)
