use Rattle.std.proofs.Common.{ap, ◌≡◌, ◌∙◌, refl, arith, ◌+◌, ◌*◌, ◌<◌, ◌≤◌, length, get_or}
use Rattle.std.proofs.Math.ListN.{set}
use Rattle.std.proofs.lemmas.List.{set-get_or}
use Rattle.rules.proofs.Past.{no_slot}
use Rattle.bus_slots.specs.declared.line.Line.{Line}
use Rattle.bus_slots.proofs.every.Laws.{turned_none, turned-all, turn-nothing, turn-to, turn_more}
use Rattle.bus_slots.proofs.every.taken.Goals as goal
use Rattle.bus_slots.proofs.every.taken.Goals.{in-Nothing, in-To, in-More}

pub loop-i-init : goal.loop-i-init
loop-i-init c = (c.requires, turned_none _ _ _)

pub loop-i-preserved : goal.loop-i-preserved
loop-i-preserved c =
    let l = c.loop-i in
    let g = c.args in
    let h : l.i < length g.slots = omega arith in
    let r : 512 * (l.i + 1) ≤ length g.mem.now = omega arith in
    let t = l.invariant in
    elim c.match-glance.branch [
      | in-Nothing w ↦ (
          let z : c.match-glance.slot-items ≡ set l.slot-items l.i (get_or l.slot-items l.i no_slot) = w.slot-items-is in
          let y : c.match-glance.slot-items ≡ l.slot-items = z ∙ set-get_or l.slot-items l.i no_slot in (
            rw w.mem-is t.0,
            rw (w.mem-is, y, w.shown-is) (turn-nothing _ g.slots g.mem.now l.i h r l.slot-items l.mem l.shown.ack l.shown.byte t.1 _ c.glance.ensures w.in-Nothing.is),
          )
          )
      | in-To w ↦ (
          let z : c.match-glance.slot-items ≡ set l.slot-items l.i w.in_phase.result = w.slot-items-is in (
            rw w.mem-is t.0,
            rw (w.mem-is, z, w.shown-is) (turn-to _ g.slots g.mem.now l.i h r l.slot-items l.mem l.shown.ack l.shown.byte t.1 _ _ w.in_phase.result c.glance.ensures w.in-To.is w.in_phase.ensures),
          )
          )
      | in-More w ↦ (
          let z : c.match-glance.slot-items ≡ set l.slot-items l.i w.next-x.result.slot = w.slot-items-is in (
            c.match-glance.auto.mem ∙ t.0,
            rw (w.mem-is, z, w.shown-is, w.joined-shown.ensures) (turn_more _ g.slots g.mem.now l.i h r l.slot-items l.mem l.shown.ack l.shown.byte t.1 (512 * l.i) (512 * l.i + 512) w.next-x.result _ refl (omega arith) w.next-x.ensures.0 w.next-x.ensures.1),
          )
          )
    ]

pub returns : goal.returns
returns c =
    let l = c.loop-i in
    let g = c.args in
    let e : c.new-line.result.act ≡ g.a = ap (λ (x : Line). x.act) c.new-line.ensures in
    rw (← e) (turned-all _ g.slots g.mem.now l.i l.slot-items l.mem l.shown.ack l.shown.byte _ c.answer_of-answer.result (omega arith) l.invariant.1 refl (rw c.new-line.result.is_carried at c.answer_of-answer.ensures))
