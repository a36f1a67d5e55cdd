-- Tag and length, compared.
use Rattle.std.proofs.Common.{rules, ◌≡◌, length, arith}
use Rattle.rules.specs.Modelled.{slot_count}
use Rattle.save_rules.specs.Form.{word_of}
use Rattle.save_fields.specs.Rows.{row_of}
use Rattle.save_fields.proofs.offsets.Laws.{offset-small, row_below}
use Rattle.save_restore.specs.Tallied.{head_tallies}
use Rattle.save_restore.proofs.Laws.{head-within}
use Rattle.save_restore.proofs.Reading.head_tallies.Goals as goal

pub overflow_cast-offset : goal.overflow_cast-offset
overflow_cast-offset c =
    let b = c.args.self.now in
    let eight : length b.slots ≡ slot_count = search rules in
    omega (arith, c.offset.ensures, offset-small (row_of c.args.field) (length b.slots) b.slots)

pub stands-requires : goal.stands-requires
stands-requires c =
    let a = c.args in
    omega (arith, c.begins.ensures, a.self.now.whole, head-within (row_of a.field) a.self.now.slots (row_below a.field) c.requires)

pub returns : goal.returns
unfolding head_tallies word_of
returns c =
    let b = c.args.self.now in
    let eight : length b.slots ≡ slot_count = search rules in
    let count = rw eight at c.offset.ensures in
    let there = rw c.word.ensures at c.stands.ensures in
    rw (← count, ← c.tag.ensures, ← c.begins.ensures) there
