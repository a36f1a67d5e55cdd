-- One share more at each turn.
use Rattle.std.proofs.Common.{rules, ◌≡◌, ◌+◌, ◌-◌, ◌*◌, length, arith}
use Rattle.rules.specs.Modelled.{slot_count}
use Rattle.rules.proofs.Past.{no_slot}
use Rattle.save_fields.specs.Rows.{row_of}
use Rattle.save_entry.proofs.Laws.{shares-none, shares-step, share-room}
use Rattle.save_entry.proofs.Bench.put_shares.Goals as goal

pub loop-i-init : goal.loop-i-init
loop-i-init c =
    let b = c.args.self.now in
    let p = shares-none (row_of c.args.field) c.args.at b.slots b.memory.now c.args.out.now in
    record { room = c.requires; end = p.0; put = p.1 }

pub put-end-requires : goal.put-end-requires
put-end-requires c =
    let l = c.loop-i in
    let b = c.args.self.now in
    let eight : length b.slots ≡ slot_count = search rules in
    omega (arith, l.invariant.room, l.invariant.end, share-room (row_of c.args.field) l.i (512 * l.i + 512 - 512 * l.i) b.slots no_slot b.memory.now (omega arith) (omega arith) b.whole (omega arith))

pub loop-i-preserved : goal.loop-i-preserved
loop-i-preserved c =
    let l = c.loop-i in
    let a = c.args in
    let b = a.self.now in
    let eight : length b.slots ≡ slot_count = search rules in
    let p = shares-step (row_of a.field) l.i (512 * l.i + 512 - 512 * l.i) b.slots no_slot b.memory.now (omega arith) (omega arith) a.at l.end _ a.out.now l.out _ (l.invariant.end, l.invariant.put) c.put-end.ensures in
    record { room = l.invariant.room; end = p.0; put = p.1 }

pub returns : goal.returns
returns c =
    let l = c.loop-i in
    let e : l.i ≡ slot_count = omega arith in
    rw (← e) (l.invariant.end, l.invariant.put)
