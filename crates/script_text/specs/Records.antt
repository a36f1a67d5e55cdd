-- Document 01, "The script program": the setup's pairs and the records, as bytes.
-- Assumes nothing.
use Rattle.std.specs.Prelude.{ℕ, zero, suc, ◌+◌, ◌-◌, ◌*◌, cond, List, [], ◌∷◌, ◌++◌, ltb, ℤ, pos, negsuc, get_or}
use Rattle.rules.specs.declared.Event.{Event}
use Rattle.rules.specs.declared.Pair.{Pair}
use Rattle.rules.specs.Modelled.{slot_count}

-- "eight pairs (kind, length)": the pairs of sixteen bytes
unfoldable pub pair_at : List ℕ → ℕ → Pair
pair_at bs at = record { kind = get_or bs at 0; length = get_or bs (at + 1) 0 }

unfoldable pub pairs_to : List ℕ → ℕ → List Pair
pairs_to bs zero = []
pairs_to bs (suc n) = pairs_to bs n ++ pair_at bs (2 * n) ∷ []

unfoldable pub pairs_of : List ℕ → List Pair
pairs_of bs = pairs_to bs slot_count

-- "records of four bytes: kind, slot, value high byte first, two's complement"
unfoldable pub value_at : ℕ → ℕ → ℤ
value_at high low = cond (ltb high 128) (pos (high * 256 + low)) (negsuc (65535 - (high * 256 + low)))

unfoldable pub record_at : List ℕ → ℕ → Event
record_at bs at =
    record { kind = get_or bs at 0; slot = record { 0 = get_or bs (at + 1) 0 }; value = value_at (get_or bs (at + 2) 0) (get_or bs (at + 3) 0) }
