-- Events laid as records at the front of a buffer, behind those that stand there.
-- Assumes nothing.
use Rattle.std.specs.Prelude.{ℕ, ◌+◌, ◌*◌, List, ◌∷◌, ◌++◌, [], map, length}
use Rattle.std.proofs.lemmas.List.Edits.{sets}
use Rattle.rules.specs.declared.Event.{Event}
use Rattle.plan_rules.specs.Records.{records_of}
use Rattle.plan_rules.specs.Plan.{start, byte, stop, tick}
use Rattle.plan_pages.specs.declared.records.Plan.{Plan}
use Rattle.plan_pages.specs.declared.records.Step.{Step}
use Rattle.plan_pages.specs.declared.records.Step.TheVariants.{Start, Byte, Stop, Tick}

-- a step as the event that it is
unfoldable pub event_of : Step → Event
event_of Start = start
event_of (Byte b) = byte b
event_of Stop = stop
event_of Tick = tick

-- a plan with events laid behind its records
abbrev pub with_laid : List Event → Plan → Plan
with_laid es p = record { buffer = record p.buffer { now = sets p.buffer.now (4 * p.count) (records_of es) }; count = p.count + length es }

-- an exchange: start, control byte, the bytes behind it, stop
unfoldable pub exchanging : ℕ → List ℕ → List Event
exchanging control bytes = start ∷ byte control ∷ map byte bytes ++ stop ∷ []
