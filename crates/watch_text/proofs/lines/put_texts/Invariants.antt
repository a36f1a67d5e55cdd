-- The numbers passed are put.
use mathlib.Core.List.{map}
use lib.ListN.{length}
use Rattle.script_text.proofs.letters.Laws.{Put}
use Rattle.watch_text.proofs.lines.Laws.{front}
use Rattle.watch_text.proofs.lines.put_texts.Given as goal

abbrev pub invariant-loop-name : goal.invariant-loop-name
invariant-loop-name l = Put l.initial.out l.from (front (map (λ name. name.now) l.names) l.numbers (length l.yielded)) l.at l.out
