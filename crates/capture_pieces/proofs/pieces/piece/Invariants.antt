-- After each turn one record more has been run, and has agreed.
use Rattle.std.proofs.Common.{◌≤◌, ◌/◌, length}
use Rattle.capture_pieces.proofs.pieces.Going.{Going}
use Rattle.capture_pieces.proofs.pieces.piece.Given as goal

abbrev pub invariant-loop-i : goal.invariant-loop-i
invariant-loop-i l = (l.i ≤ length l.records / 6) × Going (record { bus = l.initial.bus; memory = l.initial.mem }) l.number l.records l.i l.bus l.mem
