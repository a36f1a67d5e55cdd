use mathlib.Core.Path.{refl, sym, ◌∙◌, ap, ap₂}
use Prim.Native.Nat.{◌+◌, ◌<◌}
use native.Mathlib.Omega.{arith}
use lib.ListN.{length, get_or, set}
use lib.IntN.{pos}
use Rattle.rules.specs.declared.Answer.{Answer}
use Rattle.rules.specs.declared.Event.{Event}
use Rattle.rules.specs.Refusals.{in_range}
use Rattle.rules.specs.Runs.{Bench}
use Rattle.rules.proofs.Range.Kept.{next-in-range}
use Rattle.bus_event.proofs.Onward.{event-bench, event-answer}
use Rattle.list_entry.proofs.Onward.{rest_of, rest_more, rest-none, not-enough, all-run, judged}
use Rattle.list_entry.proofs.events.Goals as goal

-- what the list is read as past its end
abbrev no_event : Event
no_event = record { kind = 0; slot = record { 0 = 0 }; value = pos 0 }

pub returns-then-answers-list : goal.returns-then-answers-list
returns-then-answers-list c =
    let g = c.args in
    rw c.refused.ensures (not-enough g.bus g.mem.now g.list.now g.answers.now c.if-answers-list.true)

pub loop-i-init : goal.loop-i-init
loop-i-init c = record {
  upto = omega arith;
  stands = λ t. judged _ _ (sym c.stands-stand.ensures ∙ t);
  to_run = refl;
}

pub loop-i-preserved : goal.loop-i-preserved
loop-i-preserved c =
    let l = c.loop-i in
    let es = c.args.list.now in
    let r = c.one-done.result in
    let n = c.one-done.new.mem in
    let x : Bench = record { bus = l.b; memory = l.mem } in
    let within : l.i < length es = c.loop-i-test.true in
    let room : l.i < length l.answers = omega arith in
    let e : Event = get_or es l.i no_event in
    record {
      upto = omega arith;
      stands = λ t.
          let both = l.invariant.stands t in
          (ap (λ (y : Bench). in_range y.bus) (event-bench _ _ _ r n c.one-done.ensures) ∙ next-in-range e x both.0, c.one-done.auto.mem ∙ both.1);
      to_run =
          ap₂ (λ (y : Bench) (a : Answer). rest_of (l.i + 1) y (set l.answers l.i a) es) (event-bench _ _ _ r n c.one-done.ensures) (event-answer _ _ _ r n c.one-done.ensures)
          ∙ rest_more es l.i no_event x l.answers within room ∙ l.invariant.to_run;
    }

pub returns : goal.returns
returns c =
    let g = c.args in
    let l = c.loop-i in
    rw c.taken.ensures (all-run g.bus g.mem.now g.list.now g.answers.now (record { bus = l.b; memory = l.mem }) l.answers (omega arith)
    (sym l.invariant.to_run ∙ rest-none g.list.now l.i _ l.answers l.invariant.upto (omega arith)))
