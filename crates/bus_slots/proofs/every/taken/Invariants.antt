use Rattle.std.proofs.Common.{◌≡◌, length}
use Rattle.bus_slots.proofs.every.Laws.{Turned}
use Rattle.bus_slots.proofs.every.taken.Given as goal

abbrev pub invariant-loop-i : goal.invariant-loop-i
invariant-loop-i l = (length l.mem ≡ 4096) × Turned l.line.act l.initial.slot-items l.initial.mem l.i l.slot-items l.mem l.shown.ack l.shown.byte
