-- The slot settled; then refused, or laid.
use Rattle.std.proofs.Common.{◌∙◌, ap, refl, arith}
use Rattle.rules.specs.Refusals.{slot_in_range}
use Rattle.plan_rules.specs.Plan.{page_count, pages_before}
use Rattle.plan_rules.proofs.Count.{length-ticks}
use Rattle.plan_pages.specs.declared.records.Plan.{Plan}
use Rattle.plan_pages.specs.Laid.{with_laid}
use Rattle.plan_pages.proofs.records.Laws.{laid-sizes}
use Rattle.plan_pages.proofs.pages.Laws.{ticks-kept}
use Rattle.plan_pages.proofs.slot.Laws.{alone-barred, alone-laid}
use Rattle.plan_pages.proofs.slot.alone.Goals as goal

pub returns-then-any_barred : goal.returns-then-any_barred
returns-then-any_barred c =
    let e = c.settle-settled.ensures in
    alone-barred _ _ _ _ _ _ _ e.0 e.1 _ c.any_barred.ensures c.if-any_barred.true

pub all_pages-requires : goal.all_pages-requires
all_pages-requires c =
    let g = c in
    let s = laid-sizes _ _ _ c.ticks.ensures in
    (ap slot_in_range c.settle-settled.ensures.0 ∙ ticks-kept 5 g.args.s g.requires.0, g.requires.1, omega (arith, length-ticks 5))

pub returns : goal.returns
returns c =
    let e = c.settle-settled.ensures in
    let g = c.all_pages.ensures
    ∙ ap (with_laid (pages_before c.settle-settled.new.part c.args.image.now c.settle-settled.result c.args.k.0 page_count)) c.ticks.ensures in
    let name = ap (λ (p : Plan). p.buffer.ghost_name) g in
    let made = alone-laid _ _ _ _ _ _ _ e.0 e.1 _ _ _ c.any_barred.ensures c.if-any_barred.false refl g in
    grind (arith, name, made)
