-- Request P6, lists of events: "Offer one call on a lent list of event records and a lent list of answers [..]. The list is a slice of records as
-- it comes from the driver."
-- Assumes nothing.
use Rattle.std.specs.Prelude.{ℕ, Bool, cond, ◌&&◌, List, ◌++◌, ltb, eqb, length, take, drop}
use Rattle.rules.specs.declared.Answer.{Answer}
use Rattle.rules.specs.declared.Answer.TheVariants.{Nothing, Refused}
use Rattle.rules.specs.declared.Bus.{Bus}
use Rattle.rules.specs.declared.Event.{Event}
use Rattle.rules.specs.declared.Outcome.{Outcome}
use Rattle.rules.specs.declared.Refusal.TheVariants.{TooShort}
use Rattle.rules.specs.Modelled.{memory_bytes}
use Rattle.rules.specs.Refusals.{in_range}
use Rattle.rules.specs.Runs.{Bench, after, answers}

-- what a call leaves: what it gives back, the lent memory, and the lent answer places
abbrev pub Left : Type 0
Left = Outcome × List ℕ × List Answer

-- "An answer list shorter than the event list"
unfoldable pub too_few : List Event → List Answer → Bool
too_few es places = ltb (length places) (length es)

-- "is refusal 9, before every other check and with nothing changed."
unfoldable pub not_taken : Bench → List Answer → Left
not_taken x places = (record { bus = x.bus; answer = Refused TooShort }, x.memory, places)

-- "equal to the events given one by one in order, refused ones included. Answer places past the end of the events are unchanged."
unfoldable pub taken : Bench → List Event → List Answer → Left
taken x es places = (record { bus = (after es x).bus; answer = Nothing }, (after es x).memory, answers es x ++ drop (length es) places)

-- the call
unfoldable pub listed : Bench → List Event → List Answer → Left
listed x es places = cond (too_few es places) (not_taken x places) (taken x es places)

unfoldable pub events_of : Bus → List ℕ → List Event → List Answer → Left
events_of b m es places = listed (record { bus = b; memory = m }) es places

-- two calls, one after the other, on two parts of a list, with the answer places cut where the events are
abbrev pub called_twice : Bus → List ℕ → List Event → List Event → List Answer → Left
called_twice b m es fs places =
    let first : Left = events_of b m es (take (length es) places) in
    let second : Left = events_of first.0.bus first.1 fs (drop (length es) places) in
    (second.0, second.1, first.2 ++ second.2)

-- neither row 1 nor row 6 refuses anything: what the code looks at once, for all events of a list
unfoldable pub standing : Bus → ℕ → Bool
standing b bytes = eqb bytes memory_bytes && in_range b
