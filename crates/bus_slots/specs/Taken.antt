-- What the bus's functions give, put together from the law's definitions. Nothing is said here that the law does not say.
-- Assumes nothing.
use Rattle.std.specs.Prelude.{ℕ, List}
use Rattle.rules.specs.declared.Act.{Act}
use Rattle.rules.specs.declared.Bus.{Bus}
use Rattle.rules.specs.declared.Outcome.{Outcome}
use Rattle.rules.specs.Bus.{bus_next, memory_next, shown}

-- an act that is not refused: the outcome, and the memory after it
unfoldable pub taken_then : Bus → List ℕ → Act → Outcome × List ℕ
taken_then b m a = (record { bus = bus_next a b; answer = shown a b m }, memory_next a b m)
