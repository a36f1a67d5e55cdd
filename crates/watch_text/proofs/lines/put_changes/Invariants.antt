-- After each turn one slot more is looked at.
use mathlib.Core.Path.{◌≡◌}
use Prim.Native.Nat.{◌+◌, ◌*◌, ◌≤◌}
use lib.ListN.{length}
use lib.Seq.{sets}
use Rattle.watch_text.specs.Lines.{change_lines_to}
use Rattle.watch_text.proofs.lines.put_changes.Given as goal

abbrev pub invariant-loop-n : goal.invariant-loop-n
invariant-loop-n l = (l.at ≤ l.from + 3110 * length l.yielded) × (length l.out ≡ length l.initial.out)
    × (l.at ≡ l.from + length (change_lines_to (length l.yielded) l.fn.was l.fn.is)) × (l.out ≡ sets l.initial.out l.from (change_lines_to (length l.yielded) l.fn.was l.fn.is))
