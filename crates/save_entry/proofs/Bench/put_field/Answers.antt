-- There, or not.
use Rattle.save_fields.specs.Rows.{row_of}
use Rattle.save_entry.proofs.Laws.{room-there, put-there, put-none}
use Rattle.save_entry.proofs.Bench.put_field.Goals as goal

pub put_whole-requires : goal.put_whole-requires
put_whole-requires c =
    let a = c.args in
    let b = a.self.now in
    room-there (row_of a.field) b.slots b.memory.now _ b.whole c.is_there.ensures a.at _ c.if-is_there.true c.requires

pub returns-then-is_there : goal.returns-then-is_there
returns-then-is_there c =
    let a = c.args in
    let b = a.self.now in
    put-there (row_of a.field) b.slots b.memory.now _ b.whole c.is_there.ensures a.at _ a.out.now _ c.if-is_there.true c.put_whole.ensures

pub returns : goal.returns
returns c =
    let a = c.args in
    let b = a.self.now in
    put-none (row_of a.field) b.slots b.memory.now _ b.whole c.is_there.ensures a.at a.out.now c.if-is_there.false
