-- Too many records, a cut, and a list.
use Rattle.std.proofs.Common.{arith}
use Rattle.list.specs.Asked.{is_cut}
use Rattle.list.proofs.Laws.{answer-many, answer-cut, answer-list, number-most, whole-by}
use Rattle.list.proofs.answer.Goals as goal

pub given-requires : goal.given-requires
unfolding is_cut
given-requires c =
    let w = whole-by _ _ c.requires.0 c.if-records-eq-TOO_MANY.false c.if-number-records.false in
    (w.0, w.1, omega arith)

pub returns-then-records-eq-TOO_MANY : goal.returns-then-records-eq-TOO_MANY
returns-then-records-eq-TOO_MANY c = (number-most c.args.number.now c.type_inv.number, answer-many _ _ _ _ _ _ c.if-records-eq-TOO_MANY.true c.put_too_many.ensures)

pub returns-then-number-records : goal.returns-then-number-records
unfolding is_cut
returns-then-number-records c = (number-most c.args.number.now c.type_inv.number, answer-cut _ _ _ _ _ _ c.requires.0 c.if-records-eq-TOO_MANY.false c.if-number-records.true c.put_short.ensures)

pub returns : goal.returns
unfolding is_cut
returns c = (number-most c.args.number.now c.type_inv.number, answer-list _ _ _ _ _ _ c.requires.0 c.if-records-eq-TOO_MANY.false c.if-number-records.false c.given.ensures)
