-- Document 01, "The script program": an event as a record's four bytes, and records laid into a buffer.
-- Assumes nothing.
use Rattle.std.specs.Prelude.{ℕ, zero, suc, ◌-◌, ◌*◌, ◌/◌, ◌%◌, List, [], ◌∷◌, ◌++◌, ℤ, pos, negsuc}
use Rattle.std.proofs.lemmas.List.Edits.{sets}
use Rattle.rules.specs.declared.Event.{Event}
use Rattle.script_text.specs.Records.{record_at}

-- "two's complement": a value as sixteen bits
unfoldable pub word_of : ℤ → ℕ
word_of (pos v) = v
word_of (negsuc v) = 65535 - v

-- "records of four bytes: kind, slot, value high byte first"
unfoldable pub record_of : Event → List ℕ
record_of e = e.kind ∷ e.slot.0 ∷ word_of e.value / 256 ∷ word_of e.value % 256 ∷ []

unfoldable pub records_of : List Event → List ℕ
records_of [] = []
records_of (e ∷ es) = record_of e ++ records_of es

-- records written at the front of a buffer; what stands behind them stays
unfoldable pub laid : List Event → List ℕ → List ℕ
laid es buffer = sets buffer 0 (records_of es)

-- a buffer's first n records, as the script program reads them
unfoldable pub events_in : List ℕ → ℕ → List Event
events_in buffer zero = []
events_in buffer (suc n) = events_in buffer n ++ record_at buffer (4 * n) ∷ []
