-- From read to read the reads so far led here.
use mathlib.Core.Path.{sym, ◌∙◌}
use mathlib.Core.Bool.{true, false, false≢true}
use native.Mathlib.Omega.{arith}
use Rattle.std.proofs.lemmas.Result.{err_from_is_err_and}
use Rattle.watch_streams.proofs.Laws.{onward-cut, onward-whole, first-lines, ongoing-none, ongoing-more, watched-none, watched-by, watched-over}
use Rattle.watch_streams.proofs.watch.Goals as goal

pub returns-in_err-write_all : goal.returns-in_err-write_all
returns-in_err-write_all c =
    let p = err_from_is_err_and c.from_residual.result c.from_residual.ensures.1 in
    rw p.1 (watched-none _ _ _ (first-lines _ _ _ _ _ c.bench.view_is c.put_bench-end.ensures.1))

pub loop-init : goal.loop-init
loop-init c = ongoing-none _ _

pub returns-in_err-onward : goal.returns-in_err-onward
returns-in_err-onward c =
    let r = c.from_residual-in_err-onward in
    let p = err_from_is_err_and r.result r.ensures.1 in
    rw p.1 (watched-by _ c.args.out.now c.put_bench-end.new.out (first-lines _ _ _ _ _ c.bench.view_is c.put_bench-end.ensures.1) _ _ _ c.loop.invariant c.fill-n.new.room c.fill-n.result c.fill-n.ensures (omega arith) _ _ _ c.step-end.ensures.0 false (λ e. absurd (false≢true e)))

pub returns-then-not-branch : goal.returns-then-not-branch
returns-then-not-branch c =
    let cut = onward-cut c.write_all-in-loop.result c.fill-n.result _ (sym c.onward.ensures ∙ c.in_ok-onward.was) c.if-not-branch.true in
    watched-by _ c.args.out.now c.put_bench-end.new.out (first-lines _ _ _ _ _ c.bench.view_is c.put_bench-end.ensures.1) _ _ _ c.loop.invariant c.fill-n.new.room c.fill-n.result c.fill-n.ensures (omega arith) _ _ _ c.step-end.ensures.0 true (λ _. cut)

pub loop-preserved : goal.loop-preserved
loop-preserved c =
    let whole = onward-whole c.write_all-in-loop.result c.fill-n.result _ (sym c.onward.ensures ∙ c.in_ok-onward.was) c.if-not-branch.false in
    ongoing-more _ c.args.out.now c.put_bench-end.new.out (first-lines _ _ _ _ _ c.bench.view_is c.put_bench-end.ensures.1) _ _ _ c.loop.invariant c.fill-n.new.room c.fill-n.result c.fill-n.ensures (omega arith) _ _ _ c.step-end.ensures.0 whole

pub returns : goal.returns
returns c = watched-over _ c.args.out.now _ (first-lines _ _ _ _ _ c.bench.view_is c.put_bench-end.ensures.1) _ _ _ c.loop.invariant (omega arith)
