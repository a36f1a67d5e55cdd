-- Memory, or the share put into a room and compared.
use Rattle.std.proofs.Common.{arith}
use Rattle.save_fields.specs.Rows.{row_of}
use Rattle.save_restore.specs.Tallied.{share_tallies}
use Rattle.save_restore.proofs.Laws.{of-memory, not-memory, share-short, room-sized, taken-sized, share-by}
use Rattle.save_restore.proofs.Reading.share_tallies.Goals as goal

pub returns-then-eq : goal.returns-then-eq
unfolding share_tallies
returns-then-eq c = rw (of-memory c.args.field _ c.eq.ensures c.if-eq.true)

pub put-n-requires : goal.put-n-requires
put-n-requires c = omega (arith, share-short _ c.args.s.now (not-memory c.args.field _ c.eq.ensures c.if-eq.false))

pub slice_bounds-room-end : goal.slice_bounds-room-end
slice_bounds-room-end c =
    let a = c.args in
    let h = not-memory a.field _ c.eq.ensures c.if-eq.false in
    let p = c.put-n.ensures in
    omega (arith, room-sized (row_of a.field) a.s.now _ _ h p, (taken-sized (row_of a.field) a.s.now _ _ h p).1)

pub slice_bounds-stands-end : goal.slice_bounds-stands-end
slice_bounds-stands-end c =
    let a = c.args in
    let w = taken-sized (row_of a.field) a.s.now _ _ (not-memory a.field _ c.eq.ensures c.if-eq.false) c.put-n.ensures in
    omega (arith, w.0, w.2)

pub stands-requires : goal.stands-requires
stands-requires c =
    let a = c.args in
    let w = taken-sized (row_of a.field) a.s.now _ _ (not-memory a.field _ c.eq.ensures c.if-eq.false) c.put-n.ensures in
    omega (arith, c.requires, w.2)

pub returns : goal.returns
returns c =
    let a = c.args in
    share-by (row_of a.field) a.at _ a.s.now a.self.now.form.now _ _ (not-memory a.field _ c.eq.ensures c.if-eq.false) c.put-n.ensures c.stands.ensures
