-- What a program has begun with. The bytes that come no contract can say; what is done with them this does.
-- Assumes nothing.
use Rattle.std.specs.Prelude.{ℕ, ◌≤◌, ◌≡◌, List, length, Result}
use Rattle.rules.specs.Runs.{Bench}
use Rattle.save_opening.specs.Opening.{wanted_bytes, begin_of}

-- four bytes at most, and no more than they say, and the beginning from them: the bench, or where what was put ends; then the output
pub record Opened (out : List ℕ) (r : Result Bench ℕ) (written : List ℕ) : Type 0 where
  pub head : List ℕ
  pub form : List ℕ
  pub fits : (length head ≤ 4) × (length form ≤ wanted_bytes head)
  pub begun : begin_of head form out ≡ (r, written)
