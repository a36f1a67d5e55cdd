-- After each turn one slot more is looked at.
use mathlib.Core.Path.{◌≡◌, refl, sym, ◌∙◌}
use native.Mathlib.Nat.{add-zero}
use native.Mathlib.Omega.{arith}
use borrow.Author.Rules.{rules}
use lib.ListN.{length}
use Rattle.std.proofs.lemmas.List.{length_push}
use Rattle.std.proofs.lemmas.Iterator.{YieldsList-from_slice, YieldsList-from_zip}
use Rattle.std.proofs.lemmas.Iterator.Consumers.{YieldsList-from_enumerate, YieldsList-turn, YieldsList-end}
use Rattle.watch_text.specs.Lines.{change_lines}
use Rattle.watch_text.proofs.lines.Laws.{slot-turn, slots-eight, changes-step, changes-none}
use Rattle.watch_text.proofs.lines.put_changes.Goals as goal

pub loop-n-init : goal.loop-n-init
loop-n-init c = (omega arith, refl, rw (changes-none _ _) (sym (add-zero _)), rw (changes-none _ _))

pub put_change-at-requires : goal.put_change-at-requires
put_change-at-requires c =
    let was = c.args.was in
    let is = c.args.is in
    let chain = YieldsList-from_enumerate (YieldsList-from_zip (YieldsList-from_slice was (cc)) (YieldsList-from_slice is (cc))) (cc) in
    let t = YieldsList-turn chain c.loop-n.yielded c.loop-n.n-iterator c.loop-n.yielded_by _ c.next.new.self _ c.in-Some.is c.next.ensures.steps in
    let k : length was ≡ 8 = search rules in
    let s = slot-turn was is _ _ _ _ t.0 t.1 in
    let i = c.loop-n.invariant in
    (omega (arith, k, s.0, s.2), omega (arith, k, s.0, i.0, i.1, c.requires))

pub loop-n-preserved : goal.loop-n-preserved
loop-n-preserved c =
    let was = c.args.was in
    let is = c.args.is in
    let chain = YieldsList-from_enumerate (YieldsList-from_zip (YieldsList-from_slice was (cc)) (YieldsList-from_slice is (cc))) (cc) in
    let t = YieldsList-turn chain c.loop-n.yielded c.loop-n.n-iterator c.loop-n.yielded_by _ c.next.new.self _ c.in-Some.is c.next.ensures.steps in
    let s = slot-turn was is _ _ _ _ t.0 t.1 in
    let i = c.loop-n.invariant in
    let p = rw (s.2, ← s.3, ← s.4) at c.put_change-at.ensures in
    let d = changes-step _ _ _ _ was is _ _ _ _ _ s.0 s.1 (i.2, i.3) (p.0, p.1) in
    rw length_push (omega (arith, p.2, i.0), omega (arith, i.1), d.0, d.1)

pub returns : goal.returns
unfolding change_lines
returns c =
    let was = c.args.was in
    let is = c.args.is in
    let chain = YieldsList-from_enumerate (YieldsList-from_zip (YieldsList-from_slice was (cc)) (YieldsList-from_slice is (cc))) (cc) in
    let e = YieldsList-end chain c.loop-n.yielded c.loop-n.n-iterator c.loop-n.yielded_by _ c.next.new.self c.in-None.is c.next.ensures.steps in
    let i = c.loop-n.invariant in
    let n : length c.loop-n.yielded ≡ 8 = e.1 ∙ slots-eight was is (search rules) (search rules) in
    let j = rw n at i in
    (j.2, j.3, omega (arith, j.0))
