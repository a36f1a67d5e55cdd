-- After each turn one byte more is laid.
use Rattle.std.proofs.Common.{◌≡◌, ◌≤◌, length, map, take}
use Rattle.plan_rules.specs.Plan.{byte}
use Rattle.plan_pages.specs.Laid.{with_laid}
use Rattle.plan_pages.proofs.records.Plan.bytes.Given as goal

abbrev pub invariant-loop-b : goal.invariant-loop-b
invariant-loop-b l = (l.b-index ≤ length l.sent) × (l.self ≡ with_laid (map byte (take l.b-index l.sent)) l.initial.self)
