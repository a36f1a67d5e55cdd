-- Good pairs make their slots, others none.
use Rattle.std.proofs.Common.{rules}
use Rattle.rules.specs.Fresh.{setup_slot}
use Rattle.rules.specs.Refusals.{setup_of}
use Rattle.rules.proofs.Past.{no_pair}
use Rattle.bus_setup.proofs.Mapped.{same_from_map}
use Rattle.bus_setup.proofs.setup.Goals as goal

pub returns-then-not-good_pairs : goal.returns-then-not-good_pairs
unfolding setup_of
returns-then-not-good_pairs c = rw (← c.good_pairs.ensures, c.if-not-good_pairs.true, c.refused.ensures, c.empty_bus.ensures)

pub returns : goal.returns
unfolding setup_of
returns c =
    let slots = same_from_map setup_slot no_pair (search rules) c.map-slots.ensures.items (λ p x y q k. search rules) in
    rw (← c.good_pairs.ensures, c.if-not-good_pairs.false, c.taken.ensures, slots)
