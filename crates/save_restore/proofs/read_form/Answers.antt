-- One field more at each turn.
use Rattle.std.proofs.Common.{◌≡◌, ◌∙◌, ℕ, ap, add-one, arith}
use Rattle.rules.specs.declared.Bus.{Bus}
use Rattle.rules.specs.Refusals.{empty_bus}
use Rattle.save_rules.specs.Form.{field_count}
use Rattle.save_rules.specs.Reading.{read_field, read_to, bus_in}
use Rattle.save_fields.proofs.offsets.Laws.{row_at}
use Rattle.save_restore.proofs.read_form.Goals as goal

pub loop-field-init : goal.loop-field-init
unfolding empty_bus read_to
loop-field-init c = c.empty_bus-bus.ensures

pub loop-field-preserved : goal.loop-field-preserved
unfolding read_to
loop-field-preserved c =
    let l = c.loop-field in
    let e = rw (row_at l.field-index (omega arith)) at c.read_field-bus.ensures in
    rw (add-one l.field-index) (e ∙ ap (λ (b : Bus). record { slots = read_field l.field-index c.args.form.now b.slots }) l.invariant)

pub returns : goal.returns
unfolding bus_in
returns c =
    let l = c.loop-field in
    let e : l.field-index ≡ field_count = omega arith in
    l.invariant ∙ ap (λ (n : ℕ). record { slots = read_to n c.args.form.now }) e
