-- Eight slots at most, each with 512 bytes at most.
use Rattle.std.proofs.Common.{rules, ◌≡◌, ◌∙◌, ◌^◌, sum_by, arith}
use Rattle.std.proofs.lemmas.Iterator.{YieldsList-from_slice}
use Rattle.std.proofs.lemmas.Iterator.Adapters.{fits_from_length, at_most_from_yields_List}
use Rattle.rules.specs.declared.Slot.{Slot}
use Rattle.save_rules.specs.Form.{field_at}
use Rattle.save_fields.specs.Rows.{row_of}
use Rattle.save_fields.proofs.offsets.Laws.{size_fits, offset-all}
use Rattle.save_fields.proofs.shares.Field.offset.Goals as goal

pub sum-requires-clause-fits : goal.sum-requires-clause-fits
sum-requires-clause-fits c =
    fits_from_length _ _ 8 (2 ^ 64) (at_most_from_yields_List (YieldsList-from_slice c.args.slots.now cc) c.requires) c.map.ensures.closure (omega arith)
    (λ x r q k. let p : (q ≡ _) × (r ≡ (field_at (row_of c.args.self)).size x.now.kind) = search rules in (p.0, omega (arith, size_fits _ _ _ p.1)))

pub returns : goal.returns
returns c =
    let a = c.args in
    let total : c.sum.result ≡ sum_by (λ (s : Slot). (field_at (row_of a.self)).size s.kind) a.slots.now = search rules in
    total ∙ offset-all (row_of a.self) a.slots.now
