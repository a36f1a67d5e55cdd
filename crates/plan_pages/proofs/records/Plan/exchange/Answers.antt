-- Its parts, one behind the other.
use Rattle.std.proofs.Common.{◌∙◌, ap, arith, map, [], ◌∷◌}
use Rattle.std.proofs.lemmas.List.{length-map}
use Rattle.plan_rules.specs.Plan.{byte, stop}
use Rattle.plan_pages.specs.Laid.{event_of, with_laid}
use Rattle.plan_pages.proofs.records.Laws.{laid-sizes, exchange-by}
use Rattle.plan_pages.proofs.records.Plan.exchange.Goals as goal

pub put-requires-2 : goal.put-requires-2
put-requires-2 c = let s = laid-sizes _ _ _ c.put.ensures in omega arith

pub bytes-requires : goal.bytes-requires
bytes-requires c = let s = laid-sizes _ _ _ c.put.ensures in let t = laid-sizes _ _ _ c.put-2.ensures in omega arith

pub put-requires-3 : goal.put-requires-3
put-requires-3 c =
    let s = laid-sizes _ _ _ c.put.ensures in
    let t = laid-sizes _ _ _ c.put-2.ensures in
    let u = laid-sizes _ _ _ c.bytes.ensures in
    omega (arith, length-map c.args.sent.now byte)

pub returns : goal.returns
unfolding event_of
returns c =
    let first = c.put.ensures in
    let second = c.put-2.ensures ∙ ap (with_laid (byte c.args.control ∷ [])) first in
    let third = c.bytes.ensures ∙ ap (with_laid (map byte c.args.sent.now)) second in
    c.put-3.ensures ∙ ap (with_laid (stop ∷ [])) third ∙ exchange-by c.args.control c.args.sent.now c.args.self.now
