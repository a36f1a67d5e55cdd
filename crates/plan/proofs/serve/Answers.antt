-- What is written lies in the output.
use mathlib.Core.Path.{ap, subst}
use native.Mathlib.Omega.{arith}
use Rattle.std.proofs.Common.{Some}
use Rattle.rules.specs.declared.Bus.{Bus}
use Rattle.rules.specs.Runs.{Bench}
use Rattle.script_streams.specs.Reading.{Ended}
use Rattle.plan.proofs.Laws.{answer-onward}
use Rattle.plan.proofs.serve.Goals as goal

pub returns : goal.returns
returns c =
    let a = c.answer.ensures in
    let r = c.run_records.new in
    let m = c.fill-bytes in
    let k = c.fill-number in
    let w = c.fill-wanted in (
      omega (arith, answer-onward _ _ _ _ _ _ _ _ a (omega arith)),
      record {
        memory = m.new.room;
        slot = k.new.room;
        image = w.new.room;
        bytes = m.result;
        number = k.result;
        wanted = w.result;
        sizes = (omega arith, omega arith, omega arith);
        counts = (omega arith, omega arith, omega arith);
        held = c.in-Ok.held;
        bench = r.bench;
        left = r.out;
        ended =
            subst (λ (b : Bus). Ended (record { bus = b; memory = m.new.room }) c.args.out.now (Some c.in-Ok.held) r.bench r.out) (ap (λ (x : Bench). x.bus) c.bench.view_is) c.in-Ok.ensures;
        answered = a;
      },
    )
