-- The records passed are at the front.
use Rattle.std.proofs.Common.{rules, arith, ◌≡◌, ◌*◌, ◌/◌, ◌∙◌, ap, length}
use lib.ListN.{length-drop}
use Rattle.proof_lists.specs.Each.{filled_none}
use Rattle.list_lend.specs.Listed.{events_for}
use Rattle.list_lend.proofs.text.Events.{left-within, left-on, record-there, events-step}
use Rattle.list_lend.proofs.text.events_in.Goals as goal

pub loop-i-init : goal.loop-i-init
loop-i-init c =
    let begun = c.into_iter-i-iterator.ensures.into_iter_gives in
    let none = c.enumerate-i-items.ensures.count in
    let source = c.enumerate-i-items.ensures.source in
    record {
      within = rw (begun, none) (omega arith);
      rest = rw (begun, none, source) c.chunks_exact.ensures.rest;
      size = rw (begun, source) c.chunks_exact.ensures.size;
      bound = c.requires;
      room = search rules;
      front = rw (begun, none) (filled_none _ _);
    }

pub loop-i-preserved : goal.loop-i-preserved
loop-i-preserved c =
    let l = c.loop-i in
    let bs = c.args.records.now in
    let s = c.in-Some.ensures.steps in
    let cut = s.0.1.0 in
    let four = s.0.1.1 ∙ l.invariant.size in
    let within = left-within bs _ _ _ _ l.invariant.rest cut four in
    let there = c.record_at.ensures ∙ record-there bs _ _ _ _ l.invariant.rest cut four in
    record {
      within = rw s.2 within;
      rest = rw s.2 (left-on bs _ _ _ _ l.invariant.rest cut four);
      size = s.0.0 ∙ l.invariant.size;
      bound = l.invariant.bound;
      room = l.invariant.room;
      front = rw (s.1, s.2) (events-step _ _ bs _ _ _ l.invariant.front there (omega arith) (omega arith));
    }

pub returns : goal.returns
unfolding events_for
returns c =
    let l = c.loop-i in
    let bs = c.args.records.now in
    let s = c.in-None.ensures.steps in
    let left = ap length l.invariant.rest ∙ length-drop (4 * l.i-iterator.count) bs in
    let e : l.i-iterator.count ≡ length bs / 4 = omega (arith, s.0.1.0, left, l.invariant.size, l.invariant.within) in
    rw e at l.invariant.front
