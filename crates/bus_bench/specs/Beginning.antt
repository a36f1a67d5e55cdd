-- How a bench begins: memory as it starts, and a setup that row 5 lets pass.
-- Assumes nothing.
use Rattle.std.specs.Prelude.{cond, List, replicate, Result, Ok, Err}
use Rattle.std.specs.List.{list_all}
use Rattle.rules.specs.declared.Bus.{Bus}
use Rattle.rules.specs.declared.Pair.{Pair}
use Rattle.rules.specs.declared.Refusal.{Refusal}
use Rattle.rules.specs.declared.Refusal.TheVariants.{WrongSetup}
use Rattle.rules.specs.Modelled.{memory_bytes}
use Rattle.rules.specs.Refusals.{good_pair, setup_of}
use Rattle.rules.specs.Runs.{Bench}

-- "Memory starts as FFh."
unfoldable pub begun : Bus → Bench
begun b = record { bus = b; memory = replicate memory_bytes 0xFF }

-- the bench of a setup, or "5 bad setup"
unfoldable pub set_up_of : List Pair → Result Bench Refusal
set_up_of ps = cond (list_all good_pair ps) (Ok (begun (setup_of ps).bus)) (Err WrongSetup)
