-- A length that is cut, one that is too large, a form that is cut, and one that was read.
use mathlib.Core.Path.{ap, ◌∙◌}
use Rattle.rules.specs.Refusals.{in_range}
use Rattle.bus_bench.specs.Beginning.{begun}
use Rattle.save_opening.proofs.Laws.{begin-cut, begin-long, begin-short, empty-in-range, restored-in-range, begin-good, begin-bad}
use Rattle.save_opening.proofs.begin.Goals as goal

pub returns-then-head-lt4 : goal.returns-then-head-lt4
returns-then-head-lt4 c = begin-cut _ _ _ _ _ c.if-head-lt4.true c.put_short.ensures

pub returns-then-size-gt-MOST : goal.returns-then-size-gt-MOST
returns-then-size-gt-MOST c = begin-long _ _ _ _ _ _ c.if-head-lt4.false c.form_bytes-size.ensures c.if-size-gt-MOST.true c.put_line.ensures

pub returns-then-form-size : goal.returns-then-form-size
returns-then-form-size c = begin-short _ _ _ _ _ _ c.if-head-lt4.false c.form_bytes-size.ensures c.if-size-gt-MOST.false c.if-form-size.true c.put_short-then-form-size.ensures

pub new-bench-requires : goal.new-bench-requires
new-bench-requires c = ap in_range c.empty_bus.ensures ∙ empty-in-range

pub returns-in-Refused : goal.returns-in-Refused
returns-in-Refused c =
    let b = c.bench.inside in
    begin-bad c.args.form.now _ _ (record { bus = b.bus; memory = b.memory }) (c.bench.view_is ∙ c.new-bench.ensures ∙ ap begun c.empty_bus.ensures) c.restore-restored.ensures
    _ c.in-Refused.is _ _ _ _ _ c.if-head-lt4.false c.form_bytes-size.ensures c.if-size-gt-MOST.false c.if-form-size.false c.put_line-in-Refused.ensures

pub invariant_of-bench : goal.invariant_of-bench
invariant_of-bench c =
    let b = c.bench.inside in
    restored-in-range c.args.form.now _ _ (record { bus = b.bus; memory = b.memory }) (c.bench.view_is ∙ c.new-bench.ensures ∙ ap begun c.empty_bus.ensures) c.restore-restored.ensures
    c.in_default.not-Refused

pub returns : goal.returns
returns c =
    let b = c.bench.inside in
    begin-good c.args.form.now _ _ (record { bus = b.bus; memory = b.memory }) (c.bench.view_is ∙ c.new-bench.ensures ∙ ap begun c.empty_bus.ensures) c.restore-restored.ensures
    c.in_default.not-Refused _ _ _ c.if-head-lt4.false c.form_bytes-size.ensures c.if-size-gt-MOST.false c.if-form-size.false
