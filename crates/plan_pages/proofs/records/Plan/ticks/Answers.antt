-- After each turn one tick more is laid.
use Rattle.std.proofs.Common.{◌∙◌, ap, arith, [], ◌∷◌}
use Rattle.plan_rules.specs.Plan.{tick, ticks}
use Rattle.plan_rules.proofs.Count.{length-ticks}
use Rattle.plan_pages.specs.Laid.{event_of, with_laid}
use Rattle.plan_pages.proofs.records.Laws.{laid_none, laid-sizes, ticks-more}
use Rattle.plan_pages.proofs.records.Plan.ticks.Goals as goal

pub loop-init : goal.loop-init
unfolding ticks
loop-init c = (omega arith, laid_none _)

pub put-requires : goal.put-requires
put-requires c =
    let l = c.loop in
    let s = laid-sizes (ticks l.counter) c.args.self.now l.self l.invariant.1 in
    omega (arith, length-ticks l.counter)

pub loop-preserved : goal.loop-preserved
unfolding event_of
loop-preserved c =
    let l = c.loop in
    (omega arith, c.put.ensures ∙ ap (with_laid (tick ∷ [])) l.invariant.1 ∙ ticks-more l.counter c.args.self.now)
