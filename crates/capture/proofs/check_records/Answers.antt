-- From piece to piece the bus is in range, all records agreed, and the pieces so far led here.
use mathlib.Core.Path.{refl, subst}
use native.Mathlib.Omega.{arith}
use lib.ListN.{length-take}
use Rattle.rules.specs.Runs.{Bench}
use Rattle.capture_pieces.proofs.pieces.Onward.{piece-onward}
use Rattle.capture.specs.Program.{begun, Reached}
use Rattle.capture.proofs.Onward.{agreed, reached-none, ended-here, agreed-more, agreed-full}
use Rattle.capture.proofs.check_records.Goals as goal

pub loop-init : goal.loop-init
loop-init c = (c.bench.invariant, omega arith, subst (λ (x : Bench). Reached (begun x.bus) x.memory (agreed c.bench.inside.bus 0) c.bench.inside.memory) c.bench.view_is (reached-none _ _))

pub invariant_of-bench-then-not-on : goal.invariant_of-bench-then-not-on
invariant_of-bench-then-not-on c = piece-onward _ _ _ _ _ _ c.piece-checked.ensures c.loop.invariant.0

pub returns-then-not-on : goal.returns-then-not-on
returns-then-not-on c =
    let l = c.loop in
    let n = c.fill-n in
    ended-here _ _ _ _ _ l.invariant.2 _ _ _ _ n.result 24576 _ (simp length-take (omega arith)) (omega arith) refl c.piece-checked.ensures c.closed-verdict.ensures c.accepted.ensures c.if-not-on.true

pub loop-preserved : goal.loop-preserved
loop-preserved c =
    let l = c.loop in
    let n = c.fill-n in
    let o = c.if-not-on.false in (
      piece-onward _ _ _ _ _ _ c.piece-checked.ensures l.invariant.0,
      omega (arith, l.invariant.1, agreed-full _ _ _ _ _ l.invariant.2 _ _ _ _ n.result 24576 _ (simp length-take (omega arith)) (omega arith) refl c.piece-checked.ensures c.closed-verdict.ensures c.accepted.ensures o),
      agreed-more _ _ _ _ _ l.invariant.2 _ _ _ _ n.result 24576 _ (simp length-take (omega arith)) (omega arith) refl c.piece-checked.ensures c.closed-verdict.ensures c.accepted.ensures o,
    )
