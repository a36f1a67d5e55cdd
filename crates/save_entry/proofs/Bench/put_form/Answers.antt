-- One field more at each turn.
use Rattle.std.proofs.Common.{◌≡◌, ◌+◌, arith}
use Rattle.script_text.proofs.letters.Laws.{at_front}
use Rattle.save_rules.specs.Form.{field_count, form_to}
use Rattle.save_fields.proofs.offsets.Laws.{row_at}
use Rattle.save_entry.proofs.Laws.{form-none, form-step, form-room}
use Rattle.save_entry.proofs.Bench.put_form.Goals as goal

pub loop-field-init : goal.loop-field-init
loop-field-init c =
    let b = c.args.self.now in
    let p = at_front c.args.out.now _ _ (form_to 0 b.slots b.memory.now) (form-none b.slots b.memory.now c.args.out.now) in
    record { room = c.requires; end = p.0; put = p.1 }

pub put_field-end-requires : goal.put_field-end-requires
put_field-end-requires c =
    let l = c.loop-field in
    let b = c.args.self.now in
    rw (row_at l.field-index (omega arith)) (omega (arith, l.invariant.room, l.invariant.end, form-room l.field-index b.slots b.memory.now b.whole (omega arith)))

pub loop-field-preserved : goal.loop-field-preserved
loop-field-preserved c =
    let l = c.loop-field in
    let a = c.args in
    let b = a.self.now in
    let e = rw (row_at l.field-index (omega arith)) at c.put_field-end.ensures in
    let p = form-step l.field-index l.end _ b.slots b.memory.now a.out.now l.out _ (omega (arith, l.invariant.end), l.invariant.put) e in
    let q = at_front a.out.now _ _ (form_to (l.field-index + 1) b.slots b.memory.now) p in
    record { room = l.invariant.room; end = q.0; put = q.1 }

pub returns : goal.returns
returns c =
    let l = c.loop-field in
    let e : l.field-index ≡ field_count = omega arith in
    rw (← e) (l.invariant.end, l.invariant.put)
