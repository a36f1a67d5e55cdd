-- What each kind of act is known to do beforehand; a byte or read passes by a slot that is idle or deaf.
use Rattle.std.proofs.Common.{◌∙◌, ap}
use Rattle.bus_slots.specs.Foreseen.{carrying}
use Rattle.bus_slots.proofs.foreseen.Laws.{by-act, both_rest, at-start, at-stop, at-timeout, applied-other}
use Rattle.bus_slots.proofs.foreseen.glance.Goals as goal

pub returns-then-carrying-unheard : goal.returns-then-carrying-unheard
returns-then-carrying-unheard c =
    both_rest _ _ _ _ _ (c.carrying.ensures ∙ ap carrying c.args.line.is_carried) c.unheard.ensures c.if-carrying-unheard.true

pub returns-in-Start : goal.returns-in-Start
returns-in-Start c = let g = c.args in by-act g.n.0 g.s _ _ _ c.in-Start.is (at-start g.n.0 g.s _ c.at_signal.ensures)

pub returns-in-Stop : goal.returns-in-Stop
returns-in-Stop c = let g = c.args in by-act g.n.0 g.s _ _ _ c.in-Stop.is (at-stop g.n.0 g.s _ c.at_signal-in-Stop.ensures)

pub returns-in-Timeout : goal.returns-in-Timeout
returns-in-Timeout c = let g = c.args in by-act g.n.0 g.s _ _ _ c.in-Timeout.is (at-timeout g.n.0 g.s _ c.at_signal-in-Timeout.ensures)

pub returns-in-Apply : goal.returns-in-Apply
returns-in-Apply c = let g = c.args in by-act g.n.0 g.s _ _ _ c.in-Apply.is (applied-other g.n.0 g.s _ _ _ c.at_one.ensures)
