-- The two pages as they are cut out.
use Rattle.std.proofs.Common.{◌≡◌, ◌+◌, ◌-◌, ◌*◌, arith, not, ap, ap₂, ◌∙◌}
use Rattle.plan_rules.specs.Plan.{same, differs}
use Rattle.plan_pages.proofs.pages.Laws.{page-cut}
use Rattle.plan_pages.proofs.pages.differs.Goals as goal

pub returns : goal.returns
unfolding differs
returns c =
    let p = c.from-from.result in
    let w : 16 * p + 16 - 16 * p ≡ 16 = omega arith in
    c.ne.ensures ∙ ap not (ap₂ same (page-cut p _ _ w) (page-cut p _ _ w)) ∙ ap (differs c.args.old.now c.args.image.now) c.from-from.ensures
