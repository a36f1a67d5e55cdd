-- Piece by piece.
use native.Mathlib.Omega.{arith}
use Rattle.watch_text.proofs.lines.Laws.{slot-room, line-by}
use Rattle.watch_text.proofs.lines.put_slot.Goals as goal

pub put_decimal-first-requires : goal.put_decimal-first-requires
put_decimal-first-requires c = let n = c.args.n in omega (arith, slot-room n (omega arith))

pub put_numbers-last-requires : goal.put_numbers-last-requires
put_numbers-last-requires c = let n = c.args.n in omega (arith, slot-room n (omega arith))

pub put-requires : goal.put-requires
put-requires c = let n = c.args.n in omega (arith, slot-room n (omega arith))

pub returns : goal.returns
returns c =
    let a = c.args in
    let d = c.put_decimal-first.ensures in
    let p = c.put_numbers-last.ensures in
    let e = c.put.ensures in
    let t = line-by _ _ a.out.now _ _ _ _ _ _ _ d (p.0, p.1) e in
    (t.0, t.1, omega (arith, p.2, slot-room a.n (omega arith)))
