-- The input's end; or the record's line, and behind it those of the slots.
use mathlib.Core.Path.{◌≡◌, ap, ap₂}
use native.Mathlib.Omega.{arith}
use Rattle.rules.specs.declared.Bus.{Bus}
use Rattle.rules.specs.Runs.{Bench}
use Rattle.watch_text.specs.Lines.{change_lines}
use Rattle.script_text.proofs.letters.Laws.{Put}
use Rattle.script_text.proofs.letters.Laws.{line-length}
use Rattle.watch_streams.proofs.Laws.{cut_by, step_by}
use Rattle.watch_streams.proofs.step.Goals as goal

pub returns-then-bytes-lt4 : goal.returns-then-bytes-lt4
returns-then-bytes-lt4 c =
    let t = cut_by _ _ _ _ _ (omega arith) c.finish.ensures in
    (t.0, omega (arith, t.1))

pub put_changes-requires : goal.put_changes-requires
put_changes-requires c =
    let l = c.put_line-line.ensures in
    omega (arith, l.0, line-length c.event-answer.result)

pub returns : goal.returns
returns c =
    let l = c.put_line-line.ensures in
    let p = c.put_changes.ensures in
    let was : c.bench.inside.bus ≡ c.args.bench.now.bus = ap (λ (x : Bench). x.bus) c.bench.view_is in
    let is : c.bench-2.inside.bus ≡ c.event-answer.new.self.bus = ap (λ (x : Bench). x.bus) c.bench-2.view_is in
    let t : change_lines c.bench.inside.bus.slots c.bench-2.inside.bus.slots ≡ change_lines c.args.bench.now.bus.slots c.event-answer.new.self.bus.slots =
    ap₂ (λ (b d : Bus). change_lines b.slots d.slots) was is in
    let q : Put c.put_line-line.new.out c.put_line-line.result (change_lines c.args.bench.now.bus.slots c.event-answer.new.self.bus.slots) c.put_changes.result c.put_changes.new.out =
    (rw t at p.0, rw t at p.1) in (
      step_by c.args.bench.now _ c.args.out.now _ _ _ _ _ _ _ (omega arith) c.record_at.ensures c.event-answer.ensures.next c.event-answer.ensures.answer l q,
      omega (arith, l.0, p.2, line-length c.event-answer.result),
    )
