-- A plan's records fit the planner's buffer, and what is written of them the program's output.
-- Assumes nothing.
use Rattle.std.proofs.Common.{Result}
use mathlib.Core.Path.{◌≡◌}
use mathlib.Core.List.{List}
use Prim.Native.Nat.{ℕ, ◌≤◌}
use Rattle.rules.specs.declared.Bus.{Bus}
use Rattle.rules.specs.declared.Refusal.{Refusal}
use Rattle.rules.specs.declared.SlotNo.{SlotNo}
use Rattle.plan_rules.specs.Plan.{plan_of, plan_value}
use Rattle.plan_rules.proofs.Promise.{at_most}

pub plan-fits : (b : Bus) (m : List ℕ) (k : SlotNo) (image buffer o : List ℕ) (p : Result ℕ Refusal) → plan_of b m k image buffer ≡ (p, o) → plan_value p ≤ 811
plan-fits b m k image buffer o p e = rw e at (at_most b m k image buffer)
