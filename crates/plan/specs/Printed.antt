-- What the plan program prints, read back as a rig does: each line of eight hex digits is a record of four bytes, and that is an event as the script
-- program reads it. The theorem that running what is printed leaves the image is stated with this (proofs/Promise).
-- Assumes nothing.
use Rattle.std.specs.Prelude.{ℕ, zero, suc, ◌+◌, ◌-◌, ◌*◌, cond, List, [], ◌∷◌, ◌++◌, ltb, get_or}
use Rattle.rules.specs.declared.Event.{Event}
use Rattle.script_text.specs.Records.{record_at}

-- a hex digit in capitals, and the byte that two of them say
unfoldable pub digit_in : ℕ → ℕ
digit_in c = cond (ltb c 0x41) (c - 0x30) (c - 0x37)

unfoldable pub byte_in : List ℕ → ℕ → ℕ
byte_in text at = 16 * digit_in (get_or text at 0) + digit_in (get_or text (at + 1) 0)

-- the line that begins at a place, and the first n lines, of eight digits and a line end each
unfoldable pub event_in : List ℕ → ℕ → Event
event_in text at = record_at (byte_in text at ∷ byte_in text (at + 2) ∷ byte_in text (at + 4) ∷ byte_in text (at + 6) ∷ []) 0

unfoldable pub events_read : List ℕ → ℕ → List Event
events_read text zero = []
events_read text (suc n) = events_read text n ++ event_in text (9 * n) ∷ []
