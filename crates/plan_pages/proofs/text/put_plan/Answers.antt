-- A plan, or a refusal.
use Rattle.std.proofs.Common.{arith}
use Rattle.plan_rules.specs.Plan.{plan_value}
use Rattle.plan_pages.proofs.text.Laws.{count-length, count_room, count_by, records-by, refused-by}
use Rattle.plan_pages.proofs.text.put_plan.Goals as goal

pub put_decimal-number-requires : goal.put_decimal-number-requires
unfolding plan_value
put_decimal-number-requires c =
    let q = rw c.in-Ok.is at c.requires in
    omega (arith, count-length c.in-Ok.n q.0, count_room c.in-Ok.n)

pub put-lines-requires : goal.put-lines-requires
unfolding plan_value
put-lines-requires c =
    let q = rw c.in-Ok.is at c.requires in
    omega (arith, count-length c.in-Ok.n q.0, count_room c.in-Ok.n)

pub put_records-requires : goal.put_records-requires
unfolding plan_value
put_records-requires c =
    let q = rw c.in-Ok.is at c.requires in
    (omega (arith, count-length c.in-Ok.n q.0, count_room c.in-Ok.n), q.2)

pub returns-in-Ok : goal.returns-in-Ok
unfolding plan_value
returns-in-Ok c =
    let at = count_by _ _ _ _ _ _ c.put_decimal-number.ensures c.put-lines.ensures in
    rw c.in-Ok.is (records-by _ _ _ _ _ _ _ at c.put_records.ensures)

pub returns-in-Err : goal.returns-in-Err
unfolding plan_value
returns-in-Err c = refused-by _ _ _ _ _ _ c.in-Err.is c.put_line.ensures
