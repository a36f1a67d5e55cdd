-- The places passed have their lines.
use Rattle.std.proofs.Common.{refl, arith, take_all}
use Rattle.script_text.proofs.letters.Laws.{at_front}
use Rattle.list_lend.specs.Listed.{place_lines}
use Rattle.list_lend.proofs.text.Laws.{lines_none, lines-on, place_end}
use Rattle.list_lend.proofs.text.put_places.Goals as goal

pub loop-a-init : goal.loop-a-init
loop-a-init c = record { short = omega arith; lines = lines_none c.args.answers.now _ }

pub loop-a-preserved : goal.loop-a-preserved
loop-a-preserved c =
    let l = c.loop-a in
    let p = c.put_place-end.ensures in
    record {
      short = omega (arith, place_end _ _ _ _ _ p);
      lines = lines-on c.args.answers.now _ _ _ _ _ _ _ _ (omega arith) refl l.invariant.lines p;
    }

pub returns : goal.returns
returns c =
    let l = c.loop-a in
    let es = c.args.answers.now in
    at_front _ _ _ (place_lines es) (rw (take_all l.a-index es (omega arith)) at l.invariant.lines)
