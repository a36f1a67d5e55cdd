-- Its four bytes.
use Rattle.std.proofs.Common.{ap, List, ℕ, ◌+◌}
use Rattle.plan_pages.specs.declared.records.Plan.{Plan}
use Rattle.plan_pages.proofs.records.Laws.{laid_one}
use Rattle.plan_pages.proofs.records.Plan.put.Goals as goal

pub returns : goal.returns
returns c =
    let p = c.args.self.now in
    ap (λ (l : List ℕ). let q : Plan = record { buffer = record p.buffer { now = l }; count = p.count + 1 } in q)
    (laid_one p c.args.step _ _ c.record.ensures c.requires c.copy_from_slice.ensures.after)
