-- After each turn one record more has been run, and those behind it are left.
use mathlib.Core.Path.{◌≡◌}
use mathlib.Core.Bool.{true}
use Prim.Native.Nat.{◌≤◌}
use lib.ListN.{length}
use Rattle.rules.specs.Refusals.{in_range}
use Rattle.script_turns.proofs.turns.Going.{Going}
use Rattle.script_turns.proofs.turns.run.Given as goal

abbrev pub invariant-loop-four : goal.invariant-loop-four
invariant-loop-four l = (l.four-iterator.size ≡ 4) × (length l.out ≡ length l.initial.out) × (length l.records ≤ length l.initial.out)
    × (in_range l.x.bus ≡ true)
    × Going l.fn.bench l.records l.initial.out (length l.yielded) (record { bus = l.x.bus; memory = l.bench-inside.memory }) l.out l.end l.four-iterator.rest.now
