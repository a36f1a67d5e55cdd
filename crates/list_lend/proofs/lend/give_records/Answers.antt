-- The records' events and so many places that nothing has answered, given as one list.
use Rattle.std.proofs.Common.{arith, ◌/◌, List, ap, ◌∙◌, length, take}
use Rattle.rules.specs.declared.Event.{Event}
use lib.ListN.{length-replicate}
use Rattle.list_lend.specs.Listed.{blank}
use Rattle.list_lend.proofs.text.Events.{events-front}
use Rattle.list_lend.proofs.text.Places.{take_same}
use Rattle.list_lend.proofs.lend.Laws.{given_by}
use Rattle.list_lend.proofs.lend.give_records.Goals as goal

pub put_list-requires : goal.put_list-requires
put_list-requires c =
    let left = rw (take_same c.args.places 65535 blank c.requires.1, length-replicate c.args.places blank) at c.events-done.auto.answers in
    (omega arith, omega arith)

pub returns : goal.returns
returns c =
    let rs = c.args.records.now in
    let front = ap (λ (es : List Event). take (length rs / 4) es) c.events_in-list.ensures ∙ events-front rs in
    let done = rw (take_same c.args.places 65535 blank c.requires.1, front) at c.events-done.ensures in
    given_by _ _ _ _ _ _ _ _ _ _ done c.put_list.ensures
