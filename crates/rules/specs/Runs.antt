-- An event on a bench, which is a bus with its lent memory, and runs of events.
-- Assumes nothing.
use Rattle.std.specs.Prelude.{ℕ, List, [], ◌∷◌, Ok, Err}
use Rattle.rules.specs.declared.Act.{Act}
use Rattle.rules.specs.declared.Answer.{Answer}
use Rattle.rules.specs.declared.Answer.TheVariants as answer
use Rattle.rules.specs.declared.Bus.{Bus}
use Rattle.rules.specs.declared.Event.{Event}
use Rattle.rules.specs.declared.Outcome.{Outcome}
use Rattle.rules.specs.Refusals.{Ruling}
use Rattle.rules.specs.declared.Slot.{Slot}
use Rattle.rules.specs.Slot.{slot_next, part_next}
use Rattle.rules.specs.Bus.{bus_next, memory_next, shown}
use Rattle.rules.specs.Refusals.{ruling}

pub record Bench : Type 0 where
  pub bus : Bus
  pub memory : List ℕ

-- an act that is not refused
unfoldable pub taken : Act → Bench → Bench
taken a x = record { bus = bus_next a x.bus; memory = memory_next a x.bus x.memory }

unfoldable pub given : Act → Bench → Answer
given a x = shown a x.bus x.memory

unfoldable pub ruling_on : Event → Bench → Ruling
ruling_on e x = ruling x.bus x.memory e

-- "A refused event changes neither state nor memory."
unfoldable pub ruled_next : Ruling → Bench → Bench
ruled_next (Ok a) x = taken a x
ruled_next (Err r) x = x

-- "The answer holds the number"
unfoldable pub ruled_answer : Ruling → Bench → Answer
ruled_answer (Ok a) x = given a x
ruled_answer (Err r) x = answer.Refused r

-- one event
unfoldable pub next : Event → Bench → Bench
next e x = ruled_next (ruling_on e x) x

unfoldable pub answered : Event → Bench → Answer
answered e x = ruled_answer (ruling_on e x) x

-- what the public event gives back, and the lent memory after it
unfoldable pub ruled_outcome : Ruling → Bench → Outcome × List ℕ
ruled_outcome r x = (record { bus = (ruled_next r x).bus; answer = ruled_answer r x }, (ruled_next r x).memory)

unfoldable pub event_of : Bus → List ℕ → Event → Outcome × List ℕ
event_of b m e = ruled_outcome (ruling b m e) (record { bus = b; memory = m })

-- a run of events: the bench after it, and the answers in order
unfoldable pub after : List Event → Bench → Bench
after [] x = x
after (e ∷ es) x = after es (next e x)

unfoldable pub answers : List Event → Bench → List Answer
answers [] x = []
answers (e ∷ es) x = answered e x ∷ answers es (next e x)

-- slot n alone over a run of acts, with its 512 bytes: its state, and its bytes
unfoldable pub slot_after : ℕ → List Act → Slot → Slot
slot_after n [] s = s
slot_after n (a ∷ r) s = slot_after n r (slot_next n a s)

unfoldable pub part_after : ℕ → List Act → Slot → List ℕ → List ℕ
part_after n [] s m = m
part_after n (a ∷ r) s m = part_after n r (slot_next n a s) (part_next a s m)
