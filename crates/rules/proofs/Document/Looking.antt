-- Request P8, the entry `pin`: rows 6 and 3, by their numbers, and what is shown of a slot that has a pin.
-- Assumes nothing.
use Prim.Native.Nat.{ℕ, ◌<◌, ◌≤◌}
use mathlib.Core.Path.{◌≡◌, sym, ◌∙◌, ap}
use mathlib.Core.Bool.{true, false, false≢true, not, cond}
use mathlib.Core.List.{List, map}
use lib.Dec.{eqb, ltb}
use lib.ListN.{length, get_or, length-map, get_or-map, get_or-eq_default}
use borrow.Author.Tests.{ltb-true, ltb-false, eqb-true, not-false}
use Rattle.proof_lists.specs.Tests.{by-test, or_left_false, or_right_false}
use Rattle.rules.specs.declared.Bus.{Bus}
use Rattle.rules.specs.declared.Slot.{Slot}
use Rattle.rules.specs.declared.SlotNo.{SlotNo}
use Rattle.rules.specs.Events.{refusal_number}
use Rattle.rules.specs.Fresh.{fresh_slot, absent_slot}
use Rattle.rules.specs.Looked.{no_pin, look_of, looked_number, asserted_value, level_value}
use Rattle.rules.specs.Modelled.{sensing}
use Rattle.rules.specs.Pin.{asserted, level_of, pin_of}
use Rattle.rules.specs.Refusals.{kinds_of, kind_at, in_range}

-- a slot whose kind is not 0 is one of the bus's
pub kind-there : (n : SlotNo) (b : Bus) → (kind_at (kinds_of b) n ≡ 0 → ⊥) → n.0 < length b.slots
unfolding kind_at kinds_of
kind-there n b present =
    by-test (ltb n.0 (length b.slots)) (λ e. ltb-true _ _ e)
    (λ e.
    let kinds : List ℕ = map (λ (s : Slot). s.kind) b.slots in
    let l : length kinds ≤ n.0 = rw (length-map b.slots (λ (s : Slot). s.kind)) (ltb-false n.0 (length b.slots) e) in
    absurd (present (get_or-eq_default kinds 0 l)))

-- a slot that has a pin is one of the eight, and has a sensor
module _ (b : Bus) (n : SlotNo) (has : no_pin b n ≡ false) where
  pub pin-here : n.0 ≤ 7
  unfolding no_pin
  pin-here = ltb-false 7 n.0 (or_left_false (ltb 7 n.0) (not (eqb (kind_at (kinds_of b) n) 2)) has)

  kind-two : kind_at (kinds_of b) n ≡ 2
  unfolding no_pin
  kind-two = eqb-true (kind_at (kinds_of b) n) 2 (not-false _ (or_right_false (ltb 7 n.0) (not (eqb (kind_at (kinds_of b) n) 2)) has))

  pub pin-there : n.0 < length b.slots
  pin-there = kind-there n b (λ e. false≢true (ap (λ (k : ℕ). eqb k 2) (sym e ∙ kind-two)))

  pub pin-sensing : sensing (get_or b.slots n.0 absent_slot) ≡ true
  unfolding sensing kind_at kinds_of absent_slot fresh_slot
  pin-sensing = rw (← get_or-map (λ (s : Slot). s.kind) b.slots n.0 absent_slot) (ap (λ (k : ℕ). eqb k 2) kind-two)

-- "refusal 6, then 3 for a slot absent, above 7 or without sensor": by their numbers, and 0 and the pin's two values else
pub looked-number : (b : Bus) (n : SlotNo) → looked_number (look_of b n) ≡ cond (in_range b) (cond (no_pin b n) 3 0) 6
unfolding look_of looked_number refusal_number
looked-number b n = by-test (in_range b) (λ e. rw e (by-test (no_pin b n) (λ f. rw f) (λ f. rw f))) (λ e. rw e)

pub looked-values : (b : Bus) (n : SlotNo) → in_range b ≡ true → no_pin b n ≡ false
    → let x = (get_or b.slots n.0 absent_slot).sensor in (asserted_value (look_of b n) ≡ cond (asserted x) 1 0) × (level_value (look_of b n) ≡ cond (level_of x) 1 0)
unfolding look_of asserted_value level_value pin_of
looked-values b n e f = (rw (e, f), rw (e, f))
