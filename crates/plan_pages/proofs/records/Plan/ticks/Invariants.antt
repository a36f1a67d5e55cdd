-- After each turn one tick more is laid.
use Rattle.std.proofs.Common.{◌≡◌, ◌≤◌}
use Rattle.plan_rules.specs.Plan.{ticks}
use Rattle.plan_pages.specs.Laid.{with_laid}
use Rattle.plan_pages.proofs.records.Plan.ticks.Given as goal

abbrev pub invariant-loop : goal.invariant-loop
invariant-loop l = (l.counter ≤ l.count) × (l.self ≡ with_laid (ticks l.counter) l.initial.self)
