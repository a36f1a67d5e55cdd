-- Rows 1 and 6 first.
use mathlib.Core.Path.{sym, ◌∙◌}
use Rattle.rules.specs.Refusals.{in_range}
use Rattle.bus_event.proofs.Laws.{event-refused, ruling-short, ruling-odd}
use Rattle.bus_event.proofs.event.Goals as goal

pub returns-then-mem-ne-MEMORY : goal.returns-then-mem-ne-MEMORY
returns-then-mem-ne-MEMORY c = event-refused _ _ _ _ _ (ruling-short _ _ _ c.if-mem-ne-MEMORY.true) c.refused.ensures

pub returns-then-not-in_range : goal.returns-then-not-in_range
returns-then-not-in_range c = event-refused _ _ _ _ _ (ruling-odd _ _ _ _ c.if-mem-ne-MEMORY.false c.in_range.ensures c.if-not-in_range.true) c.refused-then-not-in_range.ensures

pub event_in_range-requires : goal.event_in_range-requires
unfolding in_range
event_in_range-requires c = (sym c.in_range.ensures ∙ c.if-not-in_range.false, c.if-mem-ne-MEMORY.false)
