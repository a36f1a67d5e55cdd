-- After each turn one record more has been run, and has agreed.
use Rattle.std.proofs.Common.{◌≡◌, refl, sym, ◌∙◌, ap, ℕ, ◌*◌, ◌/◌, ◌<◌, List, [], length, get_or, arith}
use Rattle.capture_rules.specs.Capture.{Captured, captured_at}
use Rattle.proof_lists.specs.Chunks.{chunk-at}
use Rattle.capture_pieces.proofs.pieces.Going.{captured-record, going-none, going_on, going-differs, going-ended}
use Rattle.capture_pieces.proofs.pieces.piece.Goals as goal

pub loop-i-init : goal.loop-i-init
loop-i-init c = let p = c.requires in (omega arith, going-none _ _ _ _ p.0 p.1)

pub event_in_range-x-requires : goal.event_in_range-x-requires
event_in_range-x-requires c = let g = c.loop-i.invariant.1 in (g.ranged, g.sized)

pub returns-then-not-same : goal.returns-then-not-same
unfolding captured_at
returns-then-not-same c =
    let l = c.loop-i in
    let bs = c.args.records.now in
    let below : l.i < length bs / 6 = omega arith in
    let r = captured-record bs _ (6 * l.i) (ap (λ (w : List (List ℕ)). get_or w l.i []) c.as_chunks.ensures.front ∙ chunk-at 6 (length bs / 6) l.i bs below) in
    going-differs _ _ _ _ _ _ l.invariant.1 _ (c.record_at-e.ensures ∙ ap (λ (z : Captured). z.event) r) _ (ap (λ (z : Captured). z.seen) r) _ _
    c.event_in_range-x.ensures (sym c.agrees-same.ensures ∙ c.if-not-same.true) below

pub loop-i-preserved : goal.loop-i-preserved
unfolding captured_at
loop-i-preserved c =
    let l = c.loop-i in
    let bs = c.args.records.now in
    let below : l.i < length bs / 6 = omega arith in
    let r = captured-record bs _ (6 * l.i) (ap (λ (w : List (List ℕ)). get_or w l.i []) c.as_chunks.ensures.front ∙ chunk-at 6 (length bs / 6) l.i bs below) in (
      omega arith,
      going_on _ _ _ _ _ _ l.invariant.1 _ (c.record_at-e.ensures ∙ ap (λ (z : Captured). z.event) r) _ (ap (λ (z : Captured). z.seen) r) _ _
          c.event_in_range-x.ensures (sym c.agrees-same.ensures ∙ c.if-not-same.false),
    )

pub returns : goal.returns
returns c = let l = c.loop-i in going-ended _ _ _ _ _ _ l.invariant.1 (omega arith)
