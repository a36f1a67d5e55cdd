-- After each turn one register more is put.
use Rattle.std.proofs.Common.{◌≡◌, arith}
use Rattle.save_rules.specs.Form.{word_of}
use Rattle.save_fields.proofs.shares.Laws.{none-put, registers-step, length-registers, registers-none}
use Rattle.save_fields.proofs.shares.put_registers.Goals as goal

pub loop-register-init : goal.loop-register-init
loop-register-init c = let p = none-put c.args.out.now c.args.at _ (registers-none c.args.x) in record { room = c.requires; end = p.0; put = p.1 }

pub put-end-requires : goal.put-end-requires
unfolding word_of
put-end-requires c =
    let l = c.loop-register in
    let w = c.word.ensures in
    rw w (omega (arith, l.invariant.room, l.invariant.end, length-registers l.register-index c.args.x))

pub loop-register-preserved : goal.loop-register-preserved
loop-register-preserved c =
    let l = c.loop-register in
    let a = c.args in
    let w = rw c.word.ensures at c.put-end.ensures in
    let p = registers-step l.register-index _ a.at l.end _ a.x a.out.now l.out _ c.register.ensures (l.invariant.end, l.invariant.put) w in
    record { room = l.invariant.room; end = p.0; put = p.1 }

pub returns : goal.returns
returns c =
    let l = c.loop-register in
    let e : l.register-index ≡ 7 = omega arith in
    rw (← e) (l.invariant.end, l.invariant.put)
