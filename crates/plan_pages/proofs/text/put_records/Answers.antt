-- The records passed have their lines.
use Rattle.std.proofs.Common.{ℕ, ◌*◌, ◌/◌, ◌<◌, ◌∙◌, ap, arith, List, [], length, get_or, length-take}
use Rattle.std.proofs.lemmas.List.{get_or-take}
use Rattle.proof_lists.specs.Chunks.{chunk-at}
use Rattle.plan_pages.proofs.text.Laws.{line-at, lines_none, lines-more, line-nine, lines-nine}
use Rattle.plan_pages.proofs.text.put_records.Goals as goal

pub loop-r-init : goal.loop-r-init
loop-r-init c = (omega arith, lines_none _ _ _)

pub put_record-end-requires : goal.put_record-end-requires
put_record-end-requires c = let l = c.loop-r in omega (arith, lines-nine c.args.records.now l.r-index, length-take c.args.count c.as_chunks.result.0.now)

pub loop-r-preserved : goal.loop-r-preserved
loop-r-preserved c =
    let l = c.loop-r in
    let bs = c.args.records.now in
    let i = l.r-index in
    let whole = c.as_chunks.result.0.now in
    let h : i < c.args.count = omega (arith, length-take c.args.count whole) in
    let k : i < length bs / 4 = omega arith in
    let r = get_or-take c.args.count whole i [] h ∙ ap (λ (l : List (List ℕ)). get_or l i []) c.as_chunks.ensures.front ∙ chunk-at 4 (length bs / 4) i bs k in
    let e = rw (line-at bs _ (4 * i) r) at c.put_record-end.ensures in
    (omega arith, lines-more bs _ _ _ _ _ _ i l.invariant.1 (rw (← line-nine bs (4 * i)) at e))
