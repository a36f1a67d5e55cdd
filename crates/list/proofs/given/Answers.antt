-- The records and the places, given.
use mathlib.Core.Path.{sym, ◌∙◌, ap}
use Rattle.rules.specs.Runs.{Bench}
use Rattle.list.specs.Asked.{put_for}
use Rattle.list.proofs.Laws.{put-by}
use Rattle.list.proofs.given.Goals as goal

pub returns : goal.returns
returns c =
    let b = c.bench.inside in
    sym (ap (λ (x : Bench). put_for x c.args.number.now c.args.records.now c.args.out.now) c.bench.view_is)
    ∙ put-by (record { bus = b.bus; memory = b.memory }) _ _ _ _ _ _ _ c.number_in-places.ensures c.give_records-told.ensures
