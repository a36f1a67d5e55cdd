-- The bus: every slot does its step, and the answer is made of what all of them show.
-- Assumes nothing.
use Rattle.std.specs.Prelude.{ℕ, Bool, cond, List}
use Rattle.proof_lists.specs.Each.{map_from, any_from, first_from}
use Rattle.proof_lists.specs.Parts.{part, each_part}
use Rattle.rules.specs.declared.Act.{Act}
use Rattle.rules.specs.declared.Act.TheVariants.{Start, Byte, Read, Stop, Timeout, Tick, Power, Apply}
use Rattle.rules.specs.declared.Answer.{Answer}
use Rattle.rules.specs.declared.Answer.TheVariants.{Nothing, Ack, Nack, Data}
use Rattle.rules.specs.declared.Bus.{Bus}
use Rattle.rules.specs.declared.Carried.{Carried}
use Rattle.rules.specs.declared.Carried.TheVariants as carries
use Rattle.rules.specs.Modelled.{slot_bytes}
use Rattle.rules.specs.Events.{carried}
use Rattle.rules.specs.Memory.{ticked_part}
use Rattle.rules.specs.Power.{cut_part}
use Rattle.rules.specs.Slot.{slot_next, acks, drives, driven}

-- each slot does its step, by its number
unfoldable pub bus_next : Act → Bus → Bus
bus_next a b = record { slots = map_from (λ n s. slot_next n a s) 0 b.slots }

-- only a tick and a power cycle reach the memory: each slot its own part
unfoldable pub memory_next : Act → Bus → List ℕ → List ℕ
memory_next Start b m = m
memory_next (Byte v) b m = m
memory_next (Read more) b m = m
memory_next Stop b m = m
memory_next Timeout b m = m
memory_next Tick b m = each_part slot_bytes ticked_part b.slots m
memory_next (Power k) b m = each_part slot_bytes (cut_part k) b.slots m
memory_next (Apply k x) b m = m

-- "ACK if at least one slot acknowledges"
unfoldable pub any_ack : ℕ → Bus → Bool
any_ack v b = any_from (λ n s. acks n v s) 0 b.slots

-- "the driving slot's, or FFh when none drives"; "of several driving slots the lowest is read"
unfoldable pub read_byte : Bus → List ℕ → ℕ
read_byte b m = first_from (λ n s. drives s) (λ n s. driven (part slot_bytes n m) s) 0xFF 0 b.slots

-- "Kind 2 answers ACK or NACK [..] Kind 3 answers a byte [..] The others answer nothing."
unfoldable pub shown_for : Carried → Bus → List ℕ → Answer
shown_for (carries.Byte v) b m = cond (any_ack v b) Ack Nack
shown_for (carries.Read more) b m = Data (read_byte b m)
shown_for carries.Nothing b m = Nothing

unfoldable pub shown : Act → Bus → List ℕ → Answer
shown a b m = shown_for (carried a) b m
