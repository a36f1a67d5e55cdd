-- Request P5: "A restore is a shared event; demand 3 then speaks of the runs after it, from equal restored slot s." And of demand 3: "So two neighbouring
-- exchanges to different slots may change places", in those runs too.
-- Assumes nothing.
use Prim.Native.Nat.{ℕ, ◌<◌}
use native.Mathlib.Omega.{arith}
use mathlib.Core.Path.{◌≡◌, refl, sym, ◌∙◌, ap, subst}
use mathlib.Core.Bool.{true}
use mathlib.Core.List.{List, [], ◌∷◌, ◌++◌}
use lib.IntN.{pos}
use lib.ListN.{length, get_or}
use Rattle.proof_lists.specs.Parts.{part}
use Rattle.proof_lists.specs.Tests.{cond_cases}
use Rattle.rules.specs.declared.Bus.{Bus}
use Rattle.rules.specs.declared.Event.{Event}
use Rattle.rules.specs.declared.Slot.{Slot}
use Rattle.rules.specs.Modelled.{slot_count, slot_bytes, memory_bytes, absent}
use Rattle.rules.specs.Open.{open-fields}
use Rattle.rules.specs.Fresh.{fresh_slot, absent_slot, at_rest}
use Rattle.rules.specs.Runs.{Bench}
use Rattle.runs.specs.Exchanges.{Inside, byte, Item, exchange, controls, addressed, strike}
use Rattle.runs.proofs.TwoClerks.Demand3.{Ready, Parts, Same, demand3}
use Rattle.runs.proofs.TwoClerks.Stretches.{Moved, Movable, swap-stretches, swap-run}
use Rattle.runs.proofs.TwoClerks.Struck.{Idles}
use Rattle.runs.proofs.TwoClerks.Swap as swap
use Rattle.runs.proofs.TwoClerks.Instances.{open-clerks}
use Rattle.save_rules.specs.Reading.{bus_in, memory_in, restored, accepted}
use Rattle.save_rules.specs.Rested.{rested, rested_bus}
use Rattle.save_rules.specs.Open.{open-saved}
use Rattle.save_rules.proofs.AllBytes.{sample_form, blank, sample}
use Rattle.save_rules.proofs.Back.{rested-at}
use Rattle.save_rules.proofs.Once.{typed-read, accepted-in-range, length-restored, restored-rested}

rested-idle : (s : Slot) → Idles (rested s)
unfolding rested absent_slot fresh_slot at_rest open-fields
rested-idle s = cond_cases Idles (absent s) (λ a. refl) (λ a. refl)

-- A restored bench has eight slots in range, all of them idle, and its whole memory.
pub record AtRest (x : Bench) : Type 0 where
  pub ready : Ready x
  pub slots : length x.bus.slots ≡ slot_count
  pub idle : (k : ℕ) → Idles (get_or x.bus.slots k absent_slot)

pub restored-at-rest : (f n : List ℕ) → accepted f n ≡ true → length n ≡ memory_bytes → AtRest (restored f n)
unfolding restored rested_bus
restored-at-rest f n a l = record {
  ready = record { sized = length-restored f n a l; ranged = accepted-in-range f n a };
  slots = (typed-read f).slots;
  idle = λ k. subst Idles (sym (ap (λ (b : Bus). get_or b.slots k absent_slot) (restored-rested f n a l) ∙ rested-at (bus_in f).slots k)) (rested-idle (get_or (bus_in f).slots k absent_slot));
}

-- Demand 3 behind two restores: where these agree on slot k and on its bytes, whatever the other slots are, two runs of which the same is left for slot k
-- leave it alike, with its bytes, and its own exchanges got the same answers.
pub demand3-restored : (k : ℕ) → k < slot_count
    → (f g n o : List ℕ) → accepted f n ≡ true → accepted g o ≡ true → length n ≡ memory_bytes → length o ≡ memory_bytes
    → get_or (bus_in f).slots k absent_slot ≡ get_or (bus_in g).slots k absent_slot
    → part slot_bytes k (memory_in f n) ≡ part slot_bytes k (memory_in g o)
    → (r q : List Event) (is js : List Item) → Parts (restored f n) r is → Parts (restored g o) q js → strike k is ≡ strike k js
    → Same k (restored f n) (restored g o) r q is js
unfolding restored
demand3-restored k h f g n o a b l w s e r q is js p t u =
    let x : AtRest (restored f n) = restored-at-rest f n a l in
    let y : AtRest (restored g o) = restored-at-rest g o b w in
    demand3 k (restored f n) (restored g o) r q is js x.ready y.ready
    (record { in-first = rw x.slots h; in-second = rw y.slots h; idle = x.idle k; slot = s; bytes = e })
    p t u

-- The swap behind a restore, with a addressed to slot t and b to another slot u: of four stretches, and of any run that parses so.
module _
    (f n : List ℕ)
    (accepts : accepted f n ≡ true)
    (sized : length n ≡ memory_bytes)
    (t u : ℕ)
    (a b : List Inside)
    (ne : t ≡ u → ⊥)
    (to-t : addressed t (controls true a) ≡ true)
    (to-u : addressed u (controls true b) ≡ true)
    (before later : List Item)
  where
    rests : swap.AtRest (restored f n)
    rests = let x : AtRest (restored f n) = restored-at-rest f n accepts sized in record { full = x.slots; idle = λ k h. x.idle k }

    pub swap-restored : (e g s l : List Event)
        → Parts (restored f n) e before → Parts (restored f n) g (exchange a ∷ []) → Parts (restored f n) s (exchange b ∷ []) → Parts (restored f n) l later
        → Moved (restored f n) e g s l before (exchange a) (exchange b) later
    swap-restored = swap-stretches (restored f n) (restored-at-rest f n accepts sized).ready rests t u a b ne to-t to-u before later

    pub swap-run-restored : (r : List Event) → Parts (restored f n) r (before ++ exchange a ∷ exchange b ∷ later)
        → Movable (restored f n) r before (exchange a) (exchange b) later
    swap-run-restored = swap-run (restored f n) (restored-at-rest f n accepts sized).ready rests t u a b ne to-t to-u before later

-- All that the swap asks for can be met: behind the restore of one form, two clerks write to slots 0 and 2.
abbrev event : ℕ → ℕ → Event
event kind value = record { kind = kind; slot = record { 0 = 0 }; value = pos value }

abbrev write : ℕ → List Event
write control = event 1 0 ∷ event 2 control ∷ event 2 0x00 ∷ event 2 0x5A ∷ event 4 0 ∷ []

abbrev writes : ℕ → List Inside
writes control = byte control ∷ byte 0x00 ∷ byte 0x5A ∷ []

pub writes-swapped : Moved (restored sample_form blank) [] (write 0xA0) (write 0xA4) [] [] (exchange (writes 0xA0)) (exchange (writes 0xA4)) []
unfolding open-clerks open-saved
writes-swapped = swap-restored sample_form blank sample.accepts refl 0 2 (writes 0xA0) (writes 0xA4) (λ e. omega arith) refl refl [] [] [] (write 0xA0) (write 0xA4) [] refl refl refl refl
