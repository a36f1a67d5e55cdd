-- What a program has begun with. The bytes that come no contract can say; what is done with them this does.
-- Assumes nothing.
use Rattle.std.specs.Prelude.{ℕ, ◌≤◌, ◌≡◌, List, length, Result}
use Rattle.rules.specs.Runs.{Bench}
use Rattle.script_turns.specs.Frame.{begin_of}

-- sixteen bytes at most, and the beginning from them: the bench, or where what was put ends; then the output
pub record Opened (out : List ℕ) (r : Result Bench ℕ) (written : List ℕ) : Type 0 where
  pub head : List ℕ
  pub fits : length head ≤ 16
  pub begun : begin_of head out ≡ (r, written)
