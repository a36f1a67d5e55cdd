-- After each turn one byte more is laid.
use Rattle.std.proofs.Common.{◌<◌, ◌∙◌, ap, arith, [], ◌∷◌, map, length, take, get_or, length-take}
use Rattle.std.proofs.lemmas.List.{length-map}
use Rattle.plan_rules.specs.Plan.{byte}
use Rattle.plan_pages.specs.Laid.{event_of, with_laid}
use Rattle.plan_pages.proofs.records.Laws.{laid_none, laid-sizes, bytes-more}
use Rattle.plan_pages.proofs.records.Plan.bytes.Goals as goal

pub loop-b-init : goal.loop-b-init
loop-b-init c = (omega arith, laid_none _)

pub put-requires : goal.put-requires
put-requires c =
    let l = c.loop-b in
    let p = take l.b-index c.args.sent.now in
    let s = laid-sizes (map byte p) c.args.self.now l.self l.invariant.1 in
    omega (arith, length-map p byte, length-take l.b-index c.args.sent.now)

pub loop-b-preserved : goal.loop-b-preserved
unfolding event_of
loop-b-preserved c =
    let l = c.loop-b in
    let sent = c.args.sent.now in
    let h : l.b-index < length sent = omega arith in
    (omega arith, c.put.ensures ∙ ap (with_laid (byte (get_or sent l.b-index 0) ∷ [])) l.invariant.1 ∙ bytes-more l.b-index sent c.args.self.now h)
