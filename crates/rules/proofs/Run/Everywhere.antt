-- What every act keeps of a slot, every event keeps of all slots, and every run; so what setup begins with, every run from setup has.
-- Assumes nothing.
use Rattle.std.specs.Prelude.{Ok, Err}
use Prim.Native.Nat.{ℕ}
use mathlib.Core.Path.{◌≡◌}
use mathlib.Core.Bool.{true}
use mathlib.Core.List.{List, [], ◌∷◌, map}
use Rattle.proof_lists.specs.Each.{Every, every-map_from, every-replicate}
use Rattle.std.specs.List.{list_all}
use Rattle.proof_lists.specs.Tests.{cond_cases, and_left, and_right}
use Rattle.rules.specs.declared.Act.{Act}
use Rattle.rules.specs.declared.Event.{Event}
use Rattle.rules.specs.declared.Outcome.{Outcome}
use Rattle.rules.specs.declared.Pair.{Pair}
use Rattle.rules.specs.Refusals.{Ruling}
use Rattle.rules.specs.declared.Slot.{Slot}
use Rattle.rules.specs.Modelled.{slot_count}
use Rattle.rules.specs.Fresh.{setup_slot, absent_slot}
use Rattle.rules.specs.Slot.{slot_next}
use Rattle.rules.specs.Bus.{bus_next}
use Rattle.rules.specs.Refusals.{good_pair, empty_bus, setup_of}
use Rattle.rules.specs.Runs.{Bench, taken, ruling_on, ruled_next, next, after}

-- all slots of a bench
abbrev pub Everywhere : (Slot → Type 0) → Bench → Type 0
Everywhere P x = Every P x.bus.slots

module _ (P : Slot → Type 0) where
  module _ (keeps : (n : ℕ) (a : Act) (s : Slot) → P s → P (slot_next n a s)) where
    ruled-everywhere : (r : Ruling) (x : Bench) → Everywhere P x → Everywhere P (ruled_next r x)
    unfolding ruled_next taken bus_next
    ruled-everywhere (Ok a) x h = every-map_from P (λ n s. slot_next n a s) (λ n s. keeps n a s) 0 x.bus.slots h
    ruled-everywhere (Err r) x h = h

    pub next-everywhere : (e : Event) (x : Bench) → Everywhere P x → Everywhere P (next e x)
    unfolding next
    next-everywhere e x h = ruled-everywhere (ruling_on e x) x h

    pub after-everywhere : (es : List Event) (x : Bench) → Everywhere P x → Everywhere P (after es x)
    unfolding after
    after-everywhere [] x h = h
    after-everywhere (e ∷ es) x h = after-everywhere es (next e x) (next-everywhere e x h)

  module _ (good : (p : Pair) → good_pair p ≡ true → P (setup_slot p)) (empty : P absent_slot) where
    pairs-everywhere : (ps : List Pair) → list_all good_pair ps ≡ true → Every P (map setup_slot ps)
    pairs-everywhere [] e = tt
    pairs-everywhere (p ∷ ps) e = (good p (and_left (good_pair p) (list_all good_pair ps) e), pairs-everywhere ps (and_right (good_pair p) (list_all good_pair ps) e))

    pub setup-everywhere : (ps : List Pair) → Every P (setup_of ps).bus.slots
    unfolding setup_of empty_bus
    setup-everywhere ps =
        cond_cases (λ (o : Outcome). Every P o.bus.slots) (list_all good_pair ps) (λ e. pairs-everywhere ps e) (λ e. every-replicate P slot_count absent_slot empty)
