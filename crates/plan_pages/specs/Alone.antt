-- The plan for one slot by itself, as the five ticks leave it.
-- Assumes nothing.
use Rattle.std.specs.Prelude.{ℕ, cond, List, ◌++◌, Result, Err}
use Rattle.rules.specs.declared.Refusal.{Refusal}
use Rattle.rules.specs.declared.Refusal.TheVariants.{ProtectedPage}
use Rattle.rules.specs.declared.Slot.{Slot}
use Rattle.plan_rules.specs.Plan.{page_count, five_ticks, barred_before, pages_before, planned}

-- the slot, its number and its bytes, the image, and the buffer: what the planner gives, and the buffer after it
unfoldable pub alone_of : Slot → ℕ → List ℕ → List ℕ → List ℕ → Result ℕ Refusal × List ℕ
alone_of s k old image buffer =
    cond (barred_before old image s page_count) (Err ProtectedPage, buffer)
    (planned (five_ticks ++ pages_before old image s k page_count) buffer)
