-- The fields before it.
use Rattle.std.proofs.Common.{◌∙◌, take, ap, arith}
use Rattle.save_fields.specs.Rows.{row_of, taken}
use Rattle.save_fields.proofs.offsets.Laws.{row_below, begins-front, all_fields}
use Rattle.save_fields.proofs.shares.Field.begins.Goals as goal

pub returns : goal.returns
returns c =
    let a = c.args in
    c.taken.ensures ∙ ap (λ n. taken (take n all_fields) a.slots.now) (omega (arith, c.row.ensures)) ∙ begins-front (row_of a.self) a.slots.now (omega (arith, row_below a.self))
