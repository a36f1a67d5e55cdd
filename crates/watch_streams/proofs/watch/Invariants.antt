-- From read to read the reads so far led here.
use Rattle.watch_streams.proofs.Laws.{Ongoing}
use Rattle.watch_streams.proofs.watch.Given as goal

abbrev pub invariant-loop : goal.invariant-loop
invariant-loop l = Ongoing l.initial.bench l.initial.out l.bench l.out l.counter
