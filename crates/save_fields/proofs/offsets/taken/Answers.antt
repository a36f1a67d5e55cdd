-- Six fields at most, each with 4,099 bytes at most.
use Rattle.std.proofs.Common.{rules, ◌≡◌, ◌^◌, arith}
use Rattle.std.proofs.lemmas.Iterator.{YieldsList-from_slice}
use Rattle.std.proofs.lemmas.Iterator.Adapters.{fits_from_length, at_most_from_yields_List}
use Rattle.save_rules.specs.Reading.{span}
use Rattle.save_fields.specs.Rows.{row_of}
use Rattle.save_fields.proofs.offsets.Laws.{span_small}
use Rattle.save_fields.proofs.offsets.taken.Goals as goal

pub sum-requires-clause-fits : goal.sum-requires-clause-fits
sum-requires-clause-fits c =
    let a = c.args in
    fits_from_length _ _ 6 (2 ^ 64) (at_most_from_yields_List (YieldsList-from_slice a.fields.now cc) c.requires) c.map.ensures.closure (omega arith)
    (λ x r q k. let p : (q ≡ _) × (r ≡ span (row_of x.now) a.slots.now) = search rules in (p.0, omega (arith, span_small _ _ _ p.1)))
