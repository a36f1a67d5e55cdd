-- All the fields.
use Rattle.std.proofs.Common.{◌∙◌, lit≤}
use Rattle.save_rules.specs.Form.{field_count}
use Rattle.save_fields.proofs.offsets.Laws.{begins-front}
use Rattle.save_fields.proofs.offsets.form_length.Goals as goal

pub returns : goal.returns
returns c = c.taken.ensures ∙ begins-front field_count c.args.slots.now (lit≤ tt)
