-- From read to read at most three bytes are held, and the reads so far led here.
use mathlib.Core.Path.{◌≡◌, refl}
use mathlib.Core.Bool.{false≢true}
use Prim.Native.Nat.{◌-◌, ◌≤◌}
use native.Mathlib.Omega.{arith}
use borrow.Author.Rules.{rules, of_calls}
use borrow.Rule.Slice.PartMut.{put_mid, take_put}
use lib.ListN.{length, length-take}
use Rattle.std.proofs.Common.{Some, None}
use Rattle.std.proofs.lemmas.Result.{err_from_is_err_and}
use Rattle.script_turns.proofs.turns.Onward.{turn-onward}
use Rattle.script_streams.proofs.reading.Onward.{ongoing-none, ongoing-more, ended_by, ended-over}
use Rattle.script_streams.proofs.reading.run_records.Goals as goal

pub loop-init : goal.loop-init
loop-init g c = (search rules, omega arith, ongoing-none _ _ _)

pub slice_bounds-tell-end : goal.slice_bounds-tell-end
slice_bounds-tell-end g c = let t = turn-onward _ _ _ _ _ _ _ _ _ c.turn-turned.ensures (omega arith, omega arith) in omega (arith, t.0)

pub slice_bounds-tell-end-in-loop : goal.slice_bounds-tell-end-in-loop
slice_bounds-tell-end-in-loop g c = let t = turn-onward _ _ _ _ _ _ _ _ _ c.turn-turned.ensures (omega arith, omega arith) in simp length-take (omega (arith, t.0))

pub returns-in_err-tell : goal.returns-in_err-tell
returns-in_err-tell g c =
    let l = c.loop in
    let s = l.buf in
    let h : l.held ≤ length s = omega arith in
    let z = put_mid l.held (65536 - l.held) s c.came-n.new.room in
    let k = take_put l.held (65536 - l.held) s c.came-n.new.room h in
    let f : length z ≡ 65536 = omega arith in
    let p = err_from_is_err_and c.from_residual.result c.from_residual.ensures.1 in
    rw p.1 (ended_by _ _ _ _ _ _ _ _ l.invariant.2 z c.came-n.result _ _ _ _ k c.turn-turned.ensures (omega (arith, f)) f None tt (λ e. absurd (false≢true e)))

pub returns-then-n-eq0 : goal.returns-then-n-eq0
returns-then-n-eq0 g c =
    let l = c.loop in
    let s = l.buf in
    let h : l.held ≤ length s = omega arith in
    let z = put_mid l.held (65536 - l.held) s c.came-n.new.room in
    let k = take_put l.held (65536 - l.held) s c.came-n.new.room h in
    let f : length z ≡ 65536 = omega arith in
    ended_by _ _ _ _ _ _ _ _ l.invariant.2 z c.came-n.result _ _ _ _ k c.turn-turned.ensures (omega (arith, f)) f (Some c.turn-turned.result.held) refl (λ _. c.if-n-eq0.true)

pub loop-preserved : goal.loop-preserved
loop-preserved g c =
    let l = c.loop in
    let s = l.buf in
    let h : l.held ≤ length s = omega arith in
    let z = put_mid l.held (65536 - l.held) s c.came-n.new.room in
    let k = take_put l.held (65536 - l.held) s c.came-n.new.room h in
    let f : length z ≡ 65536 = omega arith in
    let t = turn-onward _ _ _ _ _ _ _ _ _ c.turn-turned.ensures (omega (arith, f), omega (arith, f)) in
    (search of_calls, t.1, ongoing-more _ _ _ _ _ _ _ _ l.invariant.2 z c.came-n.result _ _ _ _ k c.turn-turned.ensures (omega (arith, f)) f (omega arith))

pub returns : goal.returns
returns g c = ended-over _ _ _ _ _ _ _ _ c.loop.invariant.2 (omega arith)
