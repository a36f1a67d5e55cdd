use Rattle.bus_slots.proofs.foreseen.Laws.{tick-rests}
use Rattle.bus_slots.proofs.foreseen.at_tick.Goals as goal

pub returns-then-s-eq0 : goal.returns-then-s-eq0
returns-then-s-eq0 c = tick-rests _ _ c.if-s-eq0.true
