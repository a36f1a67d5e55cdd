-- Each of the 32 pages is judged.
use Rattle.std.proofs.Common.{rules, tests, refl, ◌∙◌}
use Rattle.std.proofs.lemmas.Iterator.{YieldsList-from_range}
use Rattle.std.proofs.lemmas.Iterator.Search.{any_from_yields_List}
use Rattle.plan_rules.specs.Plan.{barred, page_block}
use Rattle.plan_pages.proofs.pages.Laws.{any-barred}
use Rattle.plan_pages.proofs.pages.any_barred.Goals as goal

pub returns : goal.returns
unfolding barred page_block
returns c =
    let a = c.args in
    any_from_yields_List (barred a.old.now a.image.now a.s) _ _ _ c.any.ensures.ran (YieldsList-from_range 0 32 32 refl refl) (λ x b q k. search (rules, tests))
    ∙ any-barred a.old.now a.image.now a.s 32
