-- The ticks that are left give what all five give.
use mathlib.Core.Path.{◌≡◌}
use mathlib.Core.Bool.{true}
use Prim.Native.Nat.{◌-◌, ◌≤◌}
use lib.ListN.{length, replicate}
use Rattle.rules.specs.declared.Act.TheVariants.{Tick}
use Rattle.rules.specs.Modelled.{slot_bytes}
use Rattle.rules.specs.Refusals.{slot_in_range}
use Rattle.rules.specs.Runs.{slot_after, part_after}
use Rattle.plan_pages.proofs.pages.settle.Given as goal

abbrev pub invariant-loop : goal.invariant-loop
invariant-loop l = (l.counter ≤ 5)
    × (slot_after 0 (replicate (5 - l.counter) Tick) l.next ≡ slot_after 0 (replicate 5 Tick) l.initial.next)
    × (part_after 0 (replicate (5 - l.counter) Tick) l.next l.part ≡ part_after 0 (replicate 5 Tick) l.initial.next l.initial.part)
