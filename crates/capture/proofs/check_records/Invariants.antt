-- From piece to piece the bus is in range, all records agreed, and the pieces so far led here.
use mathlib.Core.Path.{◌≡◌}
use mathlib.Core.Bool.{true}
use Prim.Native.Nat.{◌*◌}
use Rattle.rules.specs.Refusals.{in_range}
use Rattle.capture.specs.Program.{begun, Reached}
use Rattle.capture.proofs.Onward.{agreed}
use Rattle.capture.proofs.check_records.Given as goal

abbrev pub invariant-loop : goal.invariant-loop
invariant-loop l =
    let x = l.bench-inside in
    (in_range x.bus ≡ true) × (l.number ≡ 4096 * l.counter) × Reached (begun l.fn.bench.bus) l.fn.bench.memory (agreed x.bus l.number) x.memory
