-- From read to read at most three bytes are held, and the reads so far led here.
use Prim.Native.Nat.{◌<◌}
use Rattle.script_streams.proofs.reading.Onward.{Ongoing}
use Rattle.script_streams.proofs.reading.run_records.Given as goal

abbrev pub invariant-loop : goal.invariant-loop
invariant-loop g l =
    goal.F-IsAlwaysCallable g l.tell × (l.held < 4) × Ongoing l.initial.bench l.initial.buf l.initial.out l.counter l.bench l.buf l.held l.out
