-- A record that is cut, a form, and a refusal.
use mathlib.Core.Path.{◌∙◌, sym, ap}
use Rattle.rules.specs.Runs.{Bench}
use Rattle.save_rules.specs.Saving.{save_of}
use Rattle.save.proofs.Laws.{answer-short, answer-form, answer-refused}
use Rattle.save.proofs.answer.Goals as goal

pub returns-then-left-ne0 : goal.returns-then-left-ne0
returns-then-left-ne0 c = search answer-short

pub returns-in-Ok : goal.returns-in-Ok
returns-in-Ok c =
    let s = ap (λ (x : Bench). save_of x.bus x.memory c.args.out.now) (sym c.bench.view_is) ∙ c.save.ensures in
    answer-form _ _ _ _ _ _ c.if-left-ne0.false s c.in-Ok.is

pub returns-in-Err : goal.returns-in-Err
returns-in-Err c =
    let s = ap (λ (x : Bench). save_of x.bus x.memory c.args.out.now) (sym c.bench.view_is) ∙ c.save.ensures in
    answer-refused _ _ _ _ _ _ _ _ c.if-left-ne0.false s c.in-Err.is c.put_line.ensures
