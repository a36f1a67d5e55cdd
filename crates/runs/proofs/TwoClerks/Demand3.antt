-- Demand 3, over runs of raw events, refused ones anywhere: from two benches in range that agree on slot k at rest, and from setup.
-- Assumes nothing.
use Prim.Native.Nat.{ℕ, ◌<◌}
use mathlib.Core.Path.{◌≡◌, refl, sym, ◌∙◌, ap}
use mathlib.Core.Bool.{true}
use mathlib.Core.List.{List}
use mathlib.Core.Option.{some}
use lib.ListN.{length, length-map}
use Rattle.proof_lists.specs.Each.{every-at}
use Rattle.std.specs.List.{list_all}
use Rattle.proof_lists.specs.Parts.{part}
use Rattle.proof_lists.specs.Tests.{cond_cases}
use Rattle.rules.specs.declared.Act.{Act}
use Rattle.rules.specs.declared.Event.{Event}
use Rattle.rules.specs.declared.Outcome.{Outcome}
use Rattle.rules.specs.declared.Pair.{Pair}
use Rattle.rules.specs.declared.Slot.{Slot}
use Rattle.rules.specs.Modelled.{slot_count, slot_bytes, memory_bytes}
use Rattle.rules.specs.Fresh.{fresh_slot, setup_slot, absent_slot}
use Rattle.rules.specs.Pin.{pin_of}
use Rattle.rules.specs.Refusals.{good_pair, kinds_of, in_range, empty_bus, setup_of}
use Rattle.rules.specs.Runs.{Bench, after}
use Rattle.runs.specs.Exchanges.{acts_of, went, Item, flatten, items_of, strike, own_told}
use Rattle.rules.proofs.Range.Kept.{setup-in-range}
use Rattle.rules.proofs.Run.Everywhere.{setup-everywhere}
use Rattle.runs.proofs.TwoClerks.Alone.{slots_of, part_of, slot_at}
use Rattle.runs.proofs.TwoClerks.Parse.{flatten-items}
use Rattle.runs.proofs.TwoClerks.RunAnswers.{after_kept}
use Rattle.runs.proofs.TwoClerks.Struck.{Idles}
use Rattle.runs.proofs.TwoClerks.Apart.{Agree, EndAlike, apart}

-- a bench that no event refuses by row 1 or 6
pub record Ready (x : Bench) : Type 0 where
  pub sized : length x.memory ≡ memory_bytes
  pub ranged : in_range x.bus ≡ true

-- the whole exchanges and the events between them that a run of raw events is made of, refused ones left out
abbrev pub Parts : Bench → List Event → List Item → Type 0
Parts x r is = items_of (acts_of (kinds_of x.bus) r) ≡ some is

-- such a run does what its items do
pub after_items : (x : Bench) (r : List Event) (is : List Item) → Ready x → Parts x r is → after r x ≡ went (flatten is) x
after_items x r is z p = after_kept r x z.sized z.ranged ∙ ap (λ (acts : List Act). went acts x) (sym (flatten-items _ is p))

module _ (k : ℕ) where
  abbrev pub slot : Bench → Slot
  slot x = slot_at absent_slot k x

  -- at the end: slot k, with its bytes, its protection, counter, registers and all else; the answers to its own exchanges; and, P8, "The pin of
  -- slot s joins the things that demand 3 holds equal": asserted or not, its level, and whether a change is pending; P9, of an older module:
  -- whether its protection is permanent, and its write-protect pin
  pub record Same (x y : Bench) (r q : List Event) (is js : List Item) : Type 0 where
    pub slots : slot (after r x) ≡ slot (after q y)
    pub bytes : part_of k (after r x) ≡ part_of k (after q y)
    pub answers : own_told k is x ≡ own_told k js y
    pub pins : pin_of (slot (after r x)).sensor ≡ pin_of (slot (after q y)).sensor
    pub pending : (slot (after r x)).sensor.pending ≡ (slot (after q y)).sensor.pending
    pub permanent : (slot (after r x)).old.permanent ≡ (slot (after q y)).old.permanent
    pub write-protect : (slot (after r x)).old.pin ≡ (slot (after q y)).old.pin

  pub demand3 : (x y : Bench) (r q : List Event) (is js : List Item) → Ready x → Ready y → Agree absent_slot k x y
      → Parts x r is → Parts y q js → strike k is ≡ strike k js → Same x y r q is js
  demand3 x y r q is js z w a p o e =
      let n : EndAlike absent_slot k x y is js = apart absent_slot k x y is js a e in
      let f : after r x ≡ went (flatten is) x = after_items x r is z p in
      let g : after q y ≡ went (flatten js) y = after_items y q js w o in
      let s : slot (after r x) ≡ slot (after q y) = rw (f, g) n.slot in
      record {
        slots = s;
        bytes = rw (f, g) n.bytes;
        answers = n.answers;
        pins = ap (λ (t : Slot). pin_of t.sensor) s;
        pending = ap (λ (t : Slot). t.sensor.pending) s;
        permanent = ap (λ (t : Slot). t.old.permanent) s;
        write-protect = ap (λ (t : Slot). t.old.pin) s;
      }

-- a bench right after setup
abbrev pub begun : List Pair → List ℕ → Bench
begun ps m = record { bus = (setup_of ps).bus; memory = m }

pub setup-ready : (ps : List Pair) (m : List ℕ) → length m ≡ memory_bytes → Ready (begun ps m)
setup-ready ps m l = record { sized = l; ranged = setup-in-range ps }

pub setup-number : (ps : List Pair) (m : List ℕ) → length ps ≡ slot_count → length (slots_of (begun ps m)) ≡ slot_count
unfolding setup_of empty_bus
setup-number ps m l = cond_cases (λ (o : Outcome). length o.bus.slots ≡ slot_count) (list_all good_pair ps) (λ e. length-map ps setup_slot ∙ l) (λ e. refl)

pub setup-idle : (k : ℕ) (ps : List Pair) (m : List ℕ) → length ps ≡ slot_count → k < slot_count → Idles (slot k (begun ps m))
unfolding fresh_slot
setup-idle k ps m l h =
    every-at Idles k (slots_of (begun ps m)) absent_slot (rw (setup-number ps m l) h) (setup-everywhere Idles (λ p e. unfold setup_slot fresh_slot in refl) (unfold absent_slot fresh_slot in refl) ps)

-- "Take two runs on buses set up alike, with equal memory in slot s [..]"
pub demand3-from-setup : (k : ℕ) → k < slot_count → (ps : List Pair) → length ps ≡ slot_count
    → (m o : List ℕ) → length m ≡ memory_bytes → length o ≡ memory_bytes → part slot_bytes k m ≡ part slot_bytes k o
    → (r q : List Event) (is js : List Item) → Parts (begun ps m) r is → Parts (begun ps o) q js
    → strike k is ≡ strike k js
    → Same k (begun ps m) (begun ps o) r q is js
demand3-from-setup k h ps l m o lm lo e r q is js p t s =
    demand3 k (begun ps m) (begun ps o) r q is js (setup-ready ps m lm) (setup-ready ps o lo)
    (record {
      in-first = rw (setup-number ps m l) h;
      in-second = rw (setup-number ps o l) h;
      idle = setup-idle k ps m l h;
      slot = refl;
      bytes = e;
    })
    p t s
