-- An input that is cut, and a plan.
use mathlib.Core.Path.{◌∙◌, sym, ap}
use native.Mathlib.Omega.{arith}
use Rattle.rules.specs.Runs.{Bench}
use Rattle.plan.specs.Asked.{answer_of}
use Rattle.plan.proofs.Fits.{plan-fits}
use Rattle.plan.proofs.Laws.{answer-cut, answer-short, answer-plan}
use Rattle.plan.proofs.answer.Goals as goal

pub returns-then-came-lt4609 : goal.returns-then-came-lt4609
returns-then-came-lt4609 c = answer-cut _ _ _ _ _ _ _ _ c.if-came-lt4609.true c.put_short.ensures

pub returns-then-left-ne0 : goal.returns-then-left-ne0
returns-then-left-ne0 c = answer-short _ _ _ _ _ _ _ _ c.if-came-lt4609.false c.if-left-ne0.true c.put_short-then-left-ne0.ensures

pub put_plan-requires : goal.put_plan-requires
put_plan-requires c = let f = plan-fits _ _ _ _ _ _ _ c.plan-planned.ensures.buffer_value in (omega arith, omega arith, omega arith)

pub returns : goal.returns
returns c =
    ap (λ (x : Bench). answer_of x c.args.slot c.args.image.now c.args.came c.args.left c.args.out.now) (sym c.bench.view_is)
    ∙ answer-plan _ _ _ _ _ _ _ _ _ _ c.if-came-lt4609.false c.if-left-ne0.false c.plan-planned.ensures.buffer_value c.put_plan.ensures
