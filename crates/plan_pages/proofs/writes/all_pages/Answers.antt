-- After each turn one page more is laid, if it differs.
use Rattle.std.proofs.Common.{◌<◌, ◌∙◌, ap, arith}
use Rattle.plan_rules.specs.Plan.{page_half}
use Rattle.plan_rules.proofs.Settled.{short-cycle}
use Rattle.plan_pages.specs.declared.records.Plan.{Plan}
use Rattle.plan_pages.proofs.records.Laws.{laid-sizes}
use Rattle.plan_pages.proofs.writes.Laws.{most-page, pages-none, half-none, pages-more, half-more, pages-same, half-same}
use Rattle.plan_pages.proofs.writes.all_pages.Goals as goal
use Rattle.plan_pages.proofs.writes.all_pages.Goals.{then-differs, else-differs}

pub loop-p-init : goal.loop-p-init
loop-p-init c =
    let a = c.args in
    record {
      below = omega arith;
      room = omega arith;
      half = half-none a.old.now a.image.now a.s;
      laid = pages-none a.old.now a.image.now a.s a.k.0 a.plan.now;
    }

pub page-requires : goal.page-requires
page-requires c =
    let g = c in
    let i = c.loop-p.invariant in
    let s = laid-sizes _ _ _ i.laid in
    (g.requires.1, omega arith, short-cycle g.args.s g.requires.0, omega arith)

pub loop-p-preserved : goal.loop-p-preserved
unfolding page_half
loop-p-preserved c =
    let g = c in
    let a = g.args in
    let l = c.loop-p in
    let i = l.invariant in
    let d = c.differs.ensures in
    let h : l.p < 32 = omega arith in
    elim c.if-differs.branch [
      | then-differs w ↦ (
          let e = w.plan-is ∙ w.page.ensures in
          let f = most-page _ _ _ _ _ l.p _ _ _ h c.told-image (short-cycle a.s g.requires.0) e in
          record {
            below = omega arith;
            room = omega arith;
            half = w.half-is ∙ half-more a.old.now a.image.now a.s l.p _ d w.if-differs.true;
            laid = pages-more a.old.now a.image.now a.s a.k.0 a.plan.now l.p _ d l.plan i.laid _ _ w.if-differs.true i.half e;
          })
      | else-differs w ↦ record {
        below = omega arith;
        room = omega (arith, ap (λ (q : Plan). q.count) w.plan-is);
        half = w.half-is ∙ half-same a.old.now a.image.now a.s l.p _ d _ w.if-differs.false i.half;
        laid = w.plan-is ∙ pages-same a.old.now a.image.now a.s a.k.0 a.plan.now l.p _ d l.plan i.laid w.if-differs.false;
      }
    ]
