-- The ticks that are left give what all five give.
use mathlib.Core.Path.{refl}
use Prim.Native.Nat.{◌≤◌, ◌<◌}
use native.Mathlib.Omega.{arith}
use Rattle.plan_pages.proofs.pages.Laws.{slot_step, part_step, slot-last, part-last}
use Rattle.plan_pages.proofs.pages.settle.Goals as goal

pub loop-init : goal.loop-init
loop-init c = (omega arith, refl, refl)

pub loop-preserved : goal.loop-preserved
loop-preserved c =
    let l = c.loop in
    let e = c.tick-next.ensures in
    let h : l.counter < 5 = omega arith in
    (omega arith, slot_step _ _ _ _ h e.0 l.invariant.1, part_step _ _ _ _ _ _ h e.0 e.1 l.invariant.2)

pub returns : goal.returns
returns c = let l = c.loop in let h : 5 ≤ l.counter = omega arith in (slot-last _ _ _ h l.invariant.1, part-last _ _ _ _ h l.invariant.2)
