-- The kinds of eight slots, as the law has them of a bus, and the kinds of events by their numbers.
-- Assumes nothing.
use Rattle.std.specs.Prelude.{◌≡◌, ℕ, true, ◌||◌, List, ◌∷◌, [], map, eqb, ltb, ℤ, Result, MatchResult}
use Rattle.std.specs.List.{find}
use Rattle.std.specs.Option.{ok_or}
use Rattle.rules.specs.declared.Event.{Event}
use Rattle.rules.specs.declared.Refusal.{Refusal}
use Rattle.rules.specs.declared.Refusal.TheVariants.{UnknownKind}
use Rattle.rules.specs.declared.Slot.{Slot}
use Rattle.rules.specs.declared.SlotNo.{SlotNo}
use Rattle.bus_refusals.specs.declared.ruling.Kind.{Kind}
use Rattle.bus_refusals.specs.declared.ruling.Kind.TheVariants.{Start, Byte, Read, Stop, Timeout, Tick, Voltage, Power, Temperature, WriteProtect}

abbrev pub kinds_in : List Slot → List ℕ
kinds_in ss = map (λ (s : Slot). s.kind) ss

-- document 01's table of kinds, and P9's tenth
abbrev pub number_of : Kind → ℕ
number_of Start = 1
number_of Byte = 2
number_of Read = 3
number_of Stop = 4
number_of Timeout = 5
number_of Tick = 6
number_of Voltage = 7
number_of Power = 8
number_of Temperature = 9
number_of WriteProtect = 10

abbrev pub kinds : List Kind
kinds = Start ∷ Byte ∷ Read ∷ Stop ∷ Timeout ∷ Tick ∷ Voltage ∷ Power ∷ Temperature ∷ WriteProtect ∷ []

-- row 2: the kind that has the number, where there is one
abbrev pub kind_of : ℕ → Result Kind Refusal
kind_of n = ok_or (find (λ k. eqb (number_of k) n) kinds) UnknownKind

-- the result is the kind with this number, or that no kind has it
abbrev pub Decodes : ℕ → Result Kind Refusal → Type 0
Decodes n r = MatchResult r (λ k. number_of k ≡ n) (λ why. (why ≡ UnknownKind) × (ltb n 1 || ltb 10 n ≡ true))

-- an event of a kind that there is
abbrev pub event_with : Kind → SlotNo → ℤ → Event
event_with k n v = record { kind = number_of k; slot = n; value = v }
