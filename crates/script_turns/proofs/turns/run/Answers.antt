-- After each turn one record more has been run, and those behind it are left.
use mathlib.Core.Path.{refl, ap, ◌∙◌}
use mathlib.Core.List.{[], ◌∷◌}
use native.Mathlib.Omega.{arith}
use lib.ListN.{length-append}
use Rattle.rules.specs.declared.Outcome.{Outcome}
use Rattle.rules.specs.Refusals.{in_range}
use Rattle.rules.specs.Runs.{Bench}
use Rattle.rules.proofs.Range.Kept.{next-in-range}
use Rattle.bus_event.proofs.Onward.{event-bench, event-answer}
use Rattle.script_turns.proofs.turns.Going.{going-none, going-next, going_on, going-ended}
use Rattle.script_turns.proofs.turns.run.Goals as goal

pub loop-four-init : goal.loop-four-init
loop-four-init c =
    let i = c.into_iter-four-iterator.ensures.into_iter_gives in
    let e = c.chunks_exact-four-items.ensures in
    let x = c.taken-x.ensures in (
      rw i e.size,
      refl,
      c.requires,
      ap (λ (o : Outcome). in_range o.bus) x ∙ c.bench.invariant,
      rw (i, e.rest) (going-none _ _ _ _ (ap (λ (o : Outcome). record { bus = o.bus; memory = c.bench.inside.memory }) x ∙ c.bench.view_is)),
    )

pub event_in_range-x-requires : goal.event_in_range-x-requires
event_in_range-x-requires c = (c.loop-four.invariant.3, omega arith)

pub put_line-end-requires : goal.put_line-end-requires
put_line-end-requires c = let l = c.loop-four.invariant in let s = c.in-Some.ensures.steps in going-next _ _ _ _ _ _ _ _ l.4 _ _ s.1.0 (s.1.1 ∙ l.0) _ (omega (arith, l.1, l.2))

pub loop-four-preserved : goal.loop-four-preserved
loop-four-preserved c =
    let l = c.loop-four.invariant in
    let s = c.in-Some.ensures.steps in
    let x = c.event_in_range-x.ensures in
    let n = event-bench _ _ _ _ _ x in (
      s.0 ∙ l.0,
      omega arith,
      l.2,
      ap (λ (b : Bench). in_range b.bus) n ∙ next-in-range _ _ l.3,
      rw (length-append c.loop-four.yielded (c.in-Some.four ∷ [])) (going_on _ _ _ _ _ _ _ _ l.4 _ _ s.1.0 (s.1.1 ∙ l.0) _ c.record_at-e.ensures _ n _ (event-answer _ _ _ _ _ x) _ _ c.put_line-end.ensures),
    )

pub invariant_of-bench : goal.invariant_of-bench
invariant_of-bench c = c.loop-four.invariant.3

pub returns : goal.returns
returns c = let l = c.loop-four.invariant in let s = c.in-None.ensures.steps in going-ended _ _ _ _ _ _ _ _ l.4 (omega (arith, s.1.0, l.0))
