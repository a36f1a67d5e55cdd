-- What the program's reads leave in the end. The bytes that come no contract can say; what is done with them this does.
-- Assumes nothing.
use Rattle.std.specs.Prelude.{ℕ, ◌+◌, ◌≤◌, ◌≡◌, List, length, get_or, Some}
use Rattle.rules.specs.Runs.{Bench}
use Rattle.script_streams.specs.Reading.{Ended}
use Rattle.plan.specs.Asked.{answer_of}

-- memory, slot and image as they were read, so many bytes of each; then the records, and the answer
pub record Served (x : Bench) (out : List ℕ) (end : ℕ) (written : List ℕ) : Type 0 where
  pub memory : List ℕ
  pub slot : List ℕ
  pub image : List ℕ
  pub bytes : ℕ
  pub number : ℕ
  pub wanted : ℕ
  pub sizes : (length memory ≡ 4096) × (length slot ≡ 1) × (length image ≡ 512)
  pub counts : (bytes ≤ 4096) × (number ≤ 1) × (wanted ≤ 512)
  pub held : ℕ
  pub bench : Bench
  pub left : List ℕ
  pub ended : Ended (record { bus = x.bus; memory = memory }) out (Some held) bench left
  pub answered : answer_of bench (record { 0 = get_or slot 0 0 }) image (bytes + number + wanted) held left ≡ (end, written)
