-- Some slot needs it.
use Rattle.std.proofs.Common.{rules, tests}
use Rattle.std.proofs.lemmas.Iterator.{YieldsList-from_slice}
use Rattle.std.proofs.lemmas.Iterator.Search.{any_from_yields_List}
use Rattle.std.proofs.Common.{◌∙◌}
use Rattle.save_rules.specs.Form.{field_at}
use Rattle.save_fields.specs.Rows.{row_of}
use Rattle.save_fields.proofs.offsets.Laws.{any-needed}
use Rattle.save_fields.proofs.shares.Field.is_there.Goals as goal

pub returns : goal.returns
returns c =
    let a = c.args in
    any_from_yields_List (field_at (row_of a.self)).needed _ _ _ c.any.ensures.ran (YieldsList-from_slice a.slots.now cc) (λ x b q k. search (rules, tests))
    ∙ any-needed (row_of a.self) a.slots.now (search rules)
