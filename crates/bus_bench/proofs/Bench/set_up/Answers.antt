-- A setup that row 5 lets pass makes a bus in range; one that it does not has nothing else against it.
use mathlib.Core.Path.{ap, ◌∙◌}
use Rattle.std.proofs.Common.{Ok}
use Rattle.rules.specs.declared.Outcome.{Outcome}
use Rattle.rules.specs.Refusals.{in_range}
use Rattle.rules.proofs.Range.Kept.{setup-in-range}
use Rattle.bus_bench.proofs.Laws.{set-up-refused, set-up-good}
use Rattle.bus_bench.proofs.Bench.set_up.Goals as goal

pub new-requires : goal.new-requires
new-requires c = ap (λ (o : Outcome). in_range o.bus) c.setup-made.ensures ∙ setup-in-range _

pub returns-in-Refused : goal.returns-in-Refused
returns-in-Refused c = set-up-refused _ _ _ c.setup-made.ensures c.in-Refused.is

pub returns-in_default : goal.returns-in_default
returns-in_default c = ap Ok c.new.ensures ∙ set-up-good _ _ c.setup-made.ensures c.in_default.not-Refused
