-- After each turn one page more is laid, if it differs.
use Rattle.std.proofs.Common.{◌≡◌, ◌+◌, ◌*◌, ◌≤◌}
use Rattle.plan_rules.specs.Plan.{half_before, pages_before}
use Rattle.plan_pages.specs.Laid.{with_laid}
use Rattle.plan_pages.proofs.writes.all_pages.Given as goal

abbrev pub invariant-loop-p : goal.invariant-loop-p
invariant-loop-p l = record {
  below : l.p ≤ 32;
  room : l.plan.count ≤ l.initial.plan.count + 28 * l.p;
  half : l.half ≡ half_before l.old l.image l.s l.p;
  laid : l.plan ≡ with_laid (pages_before l.old l.image l.s l.k.0 l.p) l.initial.plan;
}
