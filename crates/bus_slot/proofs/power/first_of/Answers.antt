-- The places so far are chosen, and the latched ones among them counted.
use Rattle.std.proofs.Common.{◌≡◌, ◌∙◌, arith, false, get_or}
use Rattle.std.proofs.Math.ListN.{set}
use Rattle.std.proofs.lemmas.List.{set-get_or}
use Rattle.rules.proofs.Memory.First.{below-at-most}
use Rattle.bus_slot.proofs.power.Laws.{chosen_none, turn-latched, turn-empty, chosen-all}
use Rattle.bus_slot.proofs.power.first_of.Goals as goal
use Rattle.bus_slot.proofs.power.first_of.Goals.{then-mark, else-mark}

pub loop-mark-init : goal.loop-mark-init
loop-mark-init c = chosen_none _ _

pub overflow_add-below : goal.overflow_add-below
overflow_add-below c = let l = c.loop-mark in omega (arith, below-at-most c.args.marks l.mark-index, l.invariant.1)

pub loop-mark-preserved : goal.loop-mark-preserved
loop-mark-preserved c =
    let l = c.loop-mark in
    let a = c.args in
    elim c.if-mark.branch [
      | then-mark w ↦ (let t = turn-latched a.k a.marks l.mark-index l.mark-items l.below (omega arith) l.invariant w.if-mark.true in (w.mark-items-is ∙ t.0, w.below-is ∙ t.1))
      | else-mark w ↦ (
          let t = turn-empty a.k a.marks l.mark-index l.mark-items l.below (omega arith) l.invariant w.if-mark.false in
          let z : c.if-mark.mark-items ≡ set l.mark-items l.mark-index (get_or l.mark-items l.mark-index false) = w.mark-items-is in
          (z ∙ set-get_or l.mark-items l.mark-index false ∙ t.0, w.below-is ∙ t.1)
          )
    ]

pub returns : goal.returns
returns c = chosen-all _ _ _ _ _ (omega arith) c.loop-mark.invariant
