-- The half, the write and the ticks, one behind the other.
use Rattle.std.proofs.Common.{◌+◌, ◌*◌, ◌∙◌, ap, arith}
use Rattle.plan_rules.specs.Plan.{ticks, page_half, page_counter}
use Rattle.plan_pages.specs.Laid.{with_laid, exchanging}
use Rattle.plan_pages.proofs.records.Laws.{laid-sizes, length-exchange, length-selecting}
use Rattle.plan_pages.proofs.writes.Laws.{sent-length, page-by}
use Rattle.plan_pages.proofs.writes.page.Goals as goal

pub exchange-requires : goal.exchange-requires
unfolding page_half page_counter
exchange-requires c =
    let a = c.args in
    let s = laid-sizes _ _ _ c.selecting.ensures in
    omega (arith, length-selecting a.stands (page_half a.p), sent-length _ _ _ _ c.requires.1 c.told-image c.sent.ensures)

pub ticks-requires : goal.ticks-requires
unfolding page_half page_counter
ticks-requires c =
    let a = c.args in
    let s = laid-sizes _ _ _ c.selecting.ensures in
    let t = laid-sizes _ _ _ c.exchange.ensures in
    omega (arith, length-selecting a.stands (page_half a.p), length-exchange (0xA0 + 2 * a.k.0) c.sent.result, sent-length _ _ _ _ c.requires.1 c.told-image c.sent.ensures)

pub returns : goal.returns
unfolding page_half page_counter
returns c =
    let a = c.args in
    c.ticks.ensures
    ∙ ap (with_laid (ticks a.count)) (c.exchange.ensures ∙ ap (with_laid (exchanging (0xA0 + 2 * a.k.0) c.sent.result)) c.selecting.ensures)
    ∙ page-by a.k.0 _ a.count a.stands (page_half a.p) _ _ a.plan.now c.sent.ensures
