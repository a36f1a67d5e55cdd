-- Every field tallies.
use Rattle.std.proofs.Common.{rules, tests, ◌∙◌}
use Rattle.std.proofs.lemmas.Iterator.{YieldsList-from_slice}
use Rattle.std.proofs.lemmas.Iterator.Search.{all_from_yields_List}
use Rattle.save_fields.specs.declared.shares.Field.{Field}
use Rattle.save_fields.specs.Rows.{row_of}
use Rattle.save_fields.proofs.offsets.Laws.{all_fields}
use Rattle.save_restore.specs.Tallied.{field_tallies}
use Rattle.save_restore.proofs.Laws.{fields-all}
use Rattle.save_restore.proofs.Reading.tallies.Goals as goal

pub returns : goal.returns
returns c =
    let b = c.args.self.now in
    all_from_yields_List (λ (x : Field). field_tallies (row_of x) b.slots b.form.now) _ _ _ c.all.ensures.ran (YieldsList-from_slice all_fields c.iter.ensures.rest) (λ x r q k. search (rules, tests))
    ∙ fields-all b.slots b.form.now
