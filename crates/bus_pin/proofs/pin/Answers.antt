-- Row 6, then row 3, then the pin of a slot that is there.
use Rattle.std.proofs.Common.{rules, ◌≡◌, true, false, sym, ◌∙◌, ap, Ok}
use borrow.Author.Tests.{ltb-false}
use Rattle.rules.specs.declared.Slot.{Slot}
use Rattle.rules.specs.Fresh.{absent_slot}
use Rattle.rules.specs.Modelled.{sensing}
use Rattle.rules.specs.Pin.{pin_of}
use Rattle.rules.specs.Refusals.{in_range}
use Rattle.rules.specs.Looked.{look_of}
use Rattle.bus_pin.proofs.Laws.{pin-if, past-none}
use Rattle.bus_pin.proofs.pin.Goals as goal

pub returns-then-not-in_range : goal.returns-then-not-in_range
unfolding look_of in_range
returns-then-not-in_range c = rw (← c.in_range.ensures, c.if-not-in_range.true)

pub returns-in-Some : goal.returns-in-Some
unfolding look_of in_range
returns-in-Some c =
    let here = rw c.from.ensures at c.in-Some.ensures.lookup in
    let sensor = pin-if c.args.bus c.args.n (search rules) c.in-Some.s.now here.3.0 here.3.1 in
    let has : sensing c.in-Some.s.now ≡ true = sym c.has_sensor.ensures ∙ c.if-has_sensor.true in
    rw (← c.in_range.ensures, c.if-not-in_range.false, sensor, has, c.pin.ensures)
    (ap (λ (s : Slot). Ok (pin_of s.sensor)) (here.3.1 absent_slot))

pub returns-in_default : goal.returns-in_default
unfolding look_of in_range
returns-in_default c =
    let here = rw c.from.ensures at c.in-Some.ensures.lookup in
    let none = pin-if c.args.bus c.args.n (search rules) c.in-Some.s.now here.3.0 here.3.1 in
    let has : sensing c.in-Some.s.now ≡ false = sym c.has_sensor.ensures ∙ c.if-has_sensor.false in
    rw (← c.in_range.ensures, c.if-not-in_range.false, none, has)

pub returns-in_default-2 : goal.returns-in_default-2
unfolding look_of in_range
returns-in_default-2 c =
    let over = rw (c.from.ensures, c.in_default.is) at c.get.ensures.lookup in
    rw (← c.in_range.ensures, c.if-not-in_range.false, past-none c.args.bus c.args.n (search rules) (ltb-false _ _ (sym over.0)))
