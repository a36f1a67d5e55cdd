-- The half stands already, or it is selected.
use Rattle.plan_pages.proofs.records.Laws.{laid_none, selecting-none, selecting-other}
use Rattle.plan_pages.proofs.records.Plan.selecting.Goals as goal

pub returns-then-half-stands : goal.returns-then-half-stands
returns-then-half-stands c = rw (selecting-other _ _ c.if-half-stands.true) c.exchange.ensures

pub returns-else-half-stands : goal.returns-else-half-stands
returns-else-half-stands c = rw (selecting-none _ _ c.if-half-stands.false) (laid_none _)
