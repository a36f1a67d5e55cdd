-- An event keeps the bus in range; the bench and the answer are the law's.
use mathlib.Core.Path.{ap, ◌∙◌}
use Rattle.rules.specs.Refusals.{in_range}
use Rattle.rules.specs.Runs.{Bench, next, answered}
use Rattle.rules.proofs.Range.Kept.{next-in-range}
use Rattle.bus_event.proofs.Onward.{event-bench, event-answer}
use Rattle.bus_bench.proofs.Bench.event.Goals as goal

pub invariant_of-self : goal.invariant_of-self
invariant_of-self c = ap (λ (x : Bench). in_range x.bus) (event-bench _ _ _ _ _ c.event_in_range-x.ensures) ∙ next-in-range _ _ c.self.invariant

pub returns-clause-next : goal.returns-clause-next
returns-clause-next c = event-bench _ _ _ _ _ c.event_in_range-x.ensures ∙ ap (next c.args.e) c.self.view_is

pub returns-clause-answer : goal.returns-clause-answer
returns-clause-answer c = event-answer _ _ _ _ _ c.event_in_range-x.ensures ∙ ap (answered c.args.e) c.self.view_is
