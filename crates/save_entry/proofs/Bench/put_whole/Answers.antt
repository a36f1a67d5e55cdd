-- Tag, length and shares, one behind the other.
use Rattle.std.proofs.Common.{rules, ◌≡◌, length, arith}
use Rattle.rules.specs.Modelled.{slot_count}
use Rattle.save_rules.specs.Form.{word_of}
use Rattle.save_fields.specs.Rows.{row_of}
use Rattle.save_fields.proofs.offsets.Laws.{offset-small}
use Rattle.save_entry.proofs.Laws.{field_put, field_room}
use Rattle.save_entry.proofs.Bench.put_whole.Goals as goal

pub put-length-requires : goal.put-length-requires
put-length-requires c =
    let b = c.args.self.now in
    let r = field_room (row_of c.args.field) b.slots b.memory.now b.whole in
    omega (arith, c.requires, r.0)

pub overflow_cast-count : goal.overflow_cast-count
overflow_cast-count c =
    let b = c.args.self.now in
    let eight : length b.slots ≡ slot_count = search rules in
    omega (arith, c.offset-count.ensures, offset-small (row_of c.args.field) (length b.slots) b.slots)

pub put-contents-requires : goal.put-contents-requires
unfolding word_of
put-contents-requires c =
    let b = c.args.self.now in
    let r = field_room (row_of c.args.field) b.slots b.memory.now b.whole in
    rw c.word.ensures (omega (arith, c.requires, r.0, c.put-length.ensures.0))

pub put_shares-requires : goal.put_shares-requires
unfolding word_of
put_shares-requires c =
    let b = c.args.self.now in
    let r = field_room (row_of c.args.field) b.slots b.memory.now b.whole in
    let two = rw c.word.ensures at c.put-contents.ensures.0 in
    omega (arith, c.requires, r.0, two, c.put-length.ensures.0)

pub returns : goal.returns
returns c =
    let a = c.args in
    let b = a.self.now in
    let eight : length b.slots ≡ slot_count = search rules in
    field_put (row_of a.field) _ _ _ _ _ _ b.slots b.memory.now a.out.now _ _ _ b.whole c.tag.ensures (rw eight at c.offset-count.ensures) c.put-length.ensures
    (rw c.word.ensures at c.put-contents.ensures) c.put_shares.ensures
