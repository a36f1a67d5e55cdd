-- Document 01, "Refusal numbers", its last paragraph: the block reader.
-- Assumes nothing.
use Rattle.std.specs.Prelude.{ℕ, ◌+◌, ◌*◌, Bool, not, cond, ◌&&◌, ◌||◌, List, [], eqb, ltb, take, drop}
use Rattle.rules.specs.declared.BlockNo.{BlockNo}
use Rattle.rules.specs.declared.Bus.{Bus}
use Rattle.rules.specs.declared.SlotNo.{SlotNo}
use Rattle.rules.specs.Refusals.{wrong_length, in_range, kinds_of, kind_at}

-- "With a wrong memory length, a state as in row 6, an absent slot, a slot above 7 or a block above 3 it gets an empty part." P9: "blocks 2 and 3
-- never touched and read as empty parts"
unfoldable pub no_block : Bus → List ℕ → SlotNo → BlockNo → Bool
no_block b m n k =
    wrong_length m || not (in_range b) || ltb 7 n.0 || eqb (kind_at (kinds_of b) n) 0 || ltb 3 k.0
    || eqb (kind_at (kinds_of b) n) 3 && ltb 1 k.0

-- "A reader may ask for one 128-byte block of a slot and gets that part of the caller's memory, not a copy."
unfoldable pub block_bytes : Bus → List ℕ → SlotNo → BlockNo → List ℕ
block_bytes b m n k = cond (no_block b m n k) [] (take 128 (drop (512 * n.0 + 128 * k.0) m))
