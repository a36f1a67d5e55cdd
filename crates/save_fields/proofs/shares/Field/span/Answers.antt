-- There, or not.
use Rattle.std.proofs.Common.{rules, ◌≡◌, length, sym, arith}
use Rattle.save_fields.specs.Rows.{row_of}
use Rattle.save_fields.proofs.offsets.Laws.{offset-small, spans, spans-none}
use Rattle.save_fields.proofs.shares.Field.span.Goals as goal

pub overflow_add-result : goal.overflow_add-result
overflow_add-result c =
    let a = c.args in
    let l : length a.slots.now ≡ 8 = search rules in
    omega (arith, c.offset.ensures, offset-small (row_of a.self) (length a.slots.now) a.slots.now)

pub returns-then-is_there : goal.returns-then-is_there
returns-then-is_there c =
    let l : length c.args.slots.now ≡ 8 = search rules in
    spans _ _ _ (sym c.if-is_there.ensures) (rw l at c.offset.ensures)

pub returns-else-is_there : goal.returns-else-is_there
returns-else-is_there c = spans-none _ _ (sym c.if-is_there.ensures)
