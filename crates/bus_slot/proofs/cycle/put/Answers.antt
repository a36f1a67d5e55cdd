-- The part is as after the turns so far.
use Rattle.std.proofs.Common.{refl, true, false}
use lib.ListN.{length-set}
use Rattle.bus_slot.proofs.cycle.Laws.{put_none, put_step}
use Rattle.bus_slot.proofs.cycle.put.Goals as goal
use Rattle.bus_slot.proofs.cycle.put.Goals.{then-mark-to, else-mark-to}

pub loop-i-init : goal.loop-i-init
loop-i-init c = (put_none _ _ _ _, refl)

pub loop-i-preserved : goal.loop-i-preserved
loop-i-preserved c =
    let l = c.loop-i in
    let a = c.args in
    let step = put_step a.latch a.marks a.at l.i a.part.now l.part in
    elim c.if-mark-to.branch [
      | then-mark-to w ↦ (rw (w.part-is, c.from.ensures) (step true l.invariant.0 (rw c.from.ensures at w.if-mark-to.true)), simp (w.part-is, length-set) l.invariant.1)
      | else-mark-to w ↦ (rw w.part-is (step false l.invariant.0 (rw c.from.ensures at w.if-mark-to.false)), simp w.part-is l.invariant.1)
    ]
