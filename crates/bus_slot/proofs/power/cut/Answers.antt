-- No cycle runs or it is dropped, or one is cut short.
use mathlib.Core.Path.{refl, sym, ◌∙◌}
use Rattle.bus_slot.proofs.power.Laws.{power-rests, power-cuts}
use Rattle.bus_slot.proofs.power.cut.Goals as goal

pub returns-then-s-k : goal.returns-then-s-k
returns-then-s-k c = power-rests _ _ _ _ _ (sym c.is_absent.ensures ∙ c.if-is_absent.false) c.if-s-k.true c.powered.ensures refl

pub returns-else-s-k : goal.returns-else-s-k
returns-else-s-k c =
    power-cuts _ _ _ _ _ (sym c.is_absent.ensures ∙ c.if-is_absent.false) c.if-s-k.false _ _ c.shortened.ensures c.ended.ensures.0 c.ended.ensures.1 c.powered-else-s-k.ensures
