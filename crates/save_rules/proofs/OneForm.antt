-- One form at rest: of a bench from setup or from a restore, with any run behind it, what was saved reads back as a whole, absent slots, the registers of
-- slots without a sensor, and permanence and pin of slots that are no older ones among it.
-- Assumes nothing.
use Prim.Native.Nat.{ℕ, ◌≤◌}
use native.Mathlib.Omega.{arith}
use mathlib.Core.Path.{◌≡◌, refl, sym, ◌∙◌, ap₂, subst}
use mathlib.Core.Bool.{true, false, false≢true, cond, ◌&&◌}
use mathlib.Core.List.{List, [], ◌∷◌, map, ◌++◌}
use lib.Dec.{eqb, leb}
use lib.ListN.{length, get_or, take-append-drop}
use borrow.Author.Tests.{eqb-true, eqb-false, leb-true}
use Rattle.proof_lists.specs.Alike.{every-from, every-so, every_map}
use Rattle.proof_lists.specs.Each.{Every, list_all-at, every-at}
use Rattle.std.specs.List.{list_all}
use Rattle.proof_lists.specs.Parts.{part, parts-ext}
use Rattle.proof_lists.specs.Tests.{cond_cases, by-test, and_left, and_right}
use Rattle.rules.specs.declared.Bus.{Bus}
use Rattle.rules.specs.declared.Event.{Event}
use Rattle.rules.specs.declared.Pair.{Pair}
use Rattle.rules.specs.declared.Phase.TheVariants.{Idle}
use Rattle.rules.specs.declared.Slot.{Slot}
use Rattle.rules.specs.Modelled.{slot_count, slot_bytes, memory_bytes, absent, sensing, older, bytes_of}
use Rattle.rules.specs.Open.{open-fields}
use Rattle.rules.specs.Fresh.{fresh_sensor, fresh_older, fresh_slot, absent_slot, at_rest}
use Rattle.rules.specs.Refusals.{good_length, slot_in_range, in_range}
use Rattle.rules.specs.Runs.{Bench, next, after}
use Rattle.rules.proofs.Range.Kept.{facts, next-in-range}
use Rattle.rules.proofs.Range.Olders.{Alone}
use Rattle.rules.proofs.Memory.Protection.{number-next}
use Rattle.rules.proofs.Memory.Stored.{memory-length-next}
use Rattle.rules.proofs.Run.Everywhere.{Everywhere, next-everywhere}
use Rattle.runs.proofs.FromSetup.Lasting.{alone, Bits, Newer, slot-newer}
use Rattle.runs.proofs.FromSetup.Reached.{Reach, none, some, rests, slot-reach, reached}
use Rattle.runs.proofs.FromSetup.Together as together
use Rattle.runs.proofs.TwoClerks.Demand3.{begun, setup-ready, setup-number}
use Rattle.save_rules.specs.Form.{form_of}
use Rattle.save_rules.specs.Saving.{quiet, all_quiet}
use Rattle.save_rules.specs.Reading.{bus_in, memory_in, restored, accepted}
use Rattle.save_rules.specs.Rested.{rested, rested_bus, Typed}
use Rattle.runs.proofs.FromSetup.Plain.{FourBlocks, slot-blocks, setup-blocks, Plain, slot-plain, setup-plain, setup-newer}
use Rattle.save_rules.proofs.Bits.{only-first}
use Rattle.save_rules.proofs.Bytes.{length-read}
use Rattle.save_rules.proofs.Saves.{quiet-idle}
use Rattle.save_rules.proofs.Back.{ReadsBack, reads-back}
use Rattle.save_rules.proofs.Once.{accepted-in-range, length-restored, restored-rested, typed-read}

-- What setup gives a bench, every event keeps and every restore gives: eight slots in range with four blocks, each as a run from setup can leave it, those
-- without a sensor with fresh registers, those that are no older ones with nothing permanent and no pin on; and its memory.
pub record Calm (x : Bench) : Type 0 where
  pub sized : length x.memory ≡ memory_bytes
  pub slots : length x.bus.slots ≡ slot_count
  pub ranged : in_range x.bus ≡ true
  pub blocks : Everywhere FourBlocks x
  pub reach : Everywhere Reach x
  pub plain : Everywhere Plain x
  pub newer : Everywhere Newer x

pub calm-typed : (x : Bench) → Calm x → Typed x.bus
calm-typed x c = record { slots = c.slots; blocks = every-so FourBlocks (λ (s : Slot). length s.protection ≡ 4) (λ s h. h.stands) x.bus.slots c.blocks }

-- setup gives it
pub setup-calm : (ps : List Pair) (m : List ℕ) → length ps ≡ slot_count → length m ≡ memory_bytes → Calm (begun ps m)
setup-calm ps m l w = record {
  sized = w;
  slots = setup-number ps m l;
  ranged = (setup-ready ps m w).ranged;
  blocks = setup-blocks ps;
  reach = unfold after in reached ps m [];
  plain = setup-plain ps;
  newer = setup-newer ps;
}

-- every event keeps it, and so every run
pub next-calm : (e : Event) (x : Bench) → Calm x → Calm (next e x)
next-calm e x c = record {
  sized = memory-length-next e x ∙ c.sized;
  slots = number-next e x ∙ c.slots;
  ranged = next-in-range e x c.ranged;
  blocks = next-everywhere FourBlocks slot-blocks e x c.blocks;
  reach = next-everywhere Reach slot-reach e x c.reach;
  plain = next-everywhere Plain slot-plain e x c.plain;
  newer = next-everywhere Newer slot-newer e x c.newer;
}

pub after-calm : (es : List Event) (x : Bench) → Calm x → Calm (after es x)
unfolding after
after-calm [] x c = c
after-calm (e ∷ es) x c = after-calm es (next e x) (next-calm e x c)

-- every slot that a form keeps is such a one
rested-blocks : (s : Slot) → length s.protection ≡ 4 → FourBlocks (rested s)
unfolding rested absent_slot fresh_slot at_rest open-fields
rested-blocks s h = cond_cases FourBlocks (absent s) (λ a. record { stands = refl; comes = refl }) (λ a. record { stands = h; comes = h })

rested-plain : (s : Slot) → Plain (rested s)
unfolding rested absent sensing absent_slot fresh_slot fresh_sensor at_rest open-fields
rested-plain s = cond_cases Plain (eqb s.kind 0) (λ a e. refl) (λ a e. rw e)

rested-newer : (s : Slot) → Newer (rested s)
unfolding rested absent older absent_slot fresh_slot fresh_older at_rest open-fields
rested-newer s = cond_cases Newer (eqb s.kind 0) (λ a e. refl) (λ a e. rw e)

-- an older slot's protection is its one bit, set if permanent
rested-lasts : (s : Slot) → slot_in_range s ≡ true → length s.protection ≡ 4 → older s ≡ true → Bits s.protection s.protection s.old.permanent false
unfolding older
rested-lasts s r l o =
    let v : Alone s.half s.protection s.old.permanent = (facts s r).olders o in
    let p : s.protection ≡ alone (get_or s.protection 0 false) = only-first s.protection l v.no_one v.no-two v.no-three in
    record {
      now = get_or s.protection 0 false;
      then = get_or s.protection 0 false;
      stands = p;
      comes = p;
      set-now = v.set_if;
      set_then = v.set_if;
      will = λ e. absurd (false≢true e);
    }

lasting : (s : Slot) → slot_in_range s ≡ true → eqb s.kind 0 ≡ false → s.length ≡ 0 → ⊥
unfolding good_length
lasting s r a z =
    let g : (leb 1 s.length && leb s.length 5) ≡ true = rw a at (facts s r).lengths in
    let l : 1 ≤ s.length = leb-true 1 s.length (and_left (leb 1 s.length) (leb s.length 5) g) in
    omega arith

abbrev Restored : Slot → Type 0
Restored s = (slot_in_range s ≡ true) × (length s.protection ≡ 4)

rested-reach : (s : Slot) → Restored s → Reach (rested s)
unfolding rested absent older absent_slot fresh_slot fresh_sensor at_rest open-fields
rested-reach s r = cond_cases Reach (eqb s.kind 0) (λ a. none refl) (λ a. some (eqb-false s.kind 0 a) (λ z. lasting s r.0 a z)
    (rests (record { no-ticks = refl; no-bytes = refl; no-marks = refl; steady = refl; no_place = refl; no_word = refl }))
    (λ o. rw o (rested-lasts s r.0 r.1 o)))

-- and every restore gives it
pub restored-calm : (f n : List ℕ) → accepted f n ≡ true → length n ≡ memory_bytes → Calm (restored f n)
unfolding restored
restored-calm f n a l = record {
  sized = length-restored f n a l;
  slots = (typed-read f).slots;
  ranged = accepted-in-range f n a;
  blocks = back FourBlocks (every_map rested (λ (s : Slot). length s.protection ≡ 4) FourBlocks rested-blocks (bus_in f).slots (typed-read f).blocks);
  reach = back Reach (every_map rested Restored Reach rested-reach (bus_in f).slots each);
  plain = back Plain (every_map rested Restored Plain (λ s r. rested-plain s) (bus_in f).slots each);
  newer = back Newer (every_map rested Restored Newer (λ s r. rested-newer s) (bus_in f).slots each);
}
  where
    back : (P : Slot → Type 0) → Every P (map rested (bus_in f).slots) → Every P (bus_in f).slots
    back P h = subst (λ (b : Bus). Every P b.slots) (sym (restored-rested f n a l)) (unfold rested_bus in h)

    ranged : list_all slot_in_range (bus_in f).slots ≡ true
    ranged = unfold in_range in accepted-in-range f n a

    each : Every Restored (bus_in f).slots
    each = every-from Restored absent_slot (bus_in f).slots
        (λ k h. (list_all-at slot_in_range k (bus_in f).slots absent_slot h ranged, every-at (λ (s : Slot). length s.protection ≡ 4) k (bus_in f).slots absent_slot h (typed-read f).blocks))

-- A slot that is quiet, and as a run leaves it, is what a form keeps of it.
own-registers : (s : Slot) → Plain s → cond (sensing s) s.sensor fresh_sensor ≡ s.sensor
own-registers s h = by-test (sensing s) (λ e. rw e) (λ e. rw e (sym (h e)))

own-older : (s : Slot) → Newer s → cond (older s) s.old fresh_older ≡ s.old
own-older s h = by-test (older s) (λ e. rw e) (λ e. rw e (sym (h e)))

reach-rested : (s : Slot) → quiet s ≡ true → Reach s → Plain s → Newer s → rested s ≡ s
unfolding rested
reach-rested s q h p o = cond_cases (λ (r : Slot). r ≡ s) (absent s) (λ a. sym (absent-reach s a h))
    (λ a.
    let i : (s.phase ≡ Idle) × (s.left ≡ 0) = quiet-idle s a q in
    ap₂ (at_rest s.kind s.length s.half s.counter s.protection s.voltage) (own-registers s p) (own-older s o) ∙ sym (together.one_form s h i.0 i.1))
  where
    absent-reach : (s : Slot) → absent s ≡ true → Reach s → s ≡ absent_slot
    absent-reach s a (none e) = e
    absent-reach s a (some k l h b) = unfold absent in absurd (k (eqb-true s.kind 0 a))

slots-rested : (ss : List Slot) → list_all quiet ss ≡ true → Every Reach ss → Every Plain ss → Every Newer ss → map rested ss ≡ ss
slots-rested [] q h p o = refl
slots-rested (s ∷ ss) q h p o =
    ap₂ ◌∷◌ (reach-rested s (and_left (quiet s) (list_all quiet ss) q) h.0 p.0 o.0)
    (slots-rested ss (and_right (quiet s) (list_all quiet ss) q) h.1 p.1 o.1)

pub calm-rested : (x : Bench) → Calm x → all_quiet x.bus ≡ true → rested_bus x.bus ≡ x.bus
unfolding rested_bus all_quiet
calm-rested x c q = λ i. record { slots = slots-rested x.bus.slots q c.reach c.plain c.newer i }

-- What was saved reads back the same, as a whole: the bus that is restored is the bus that was saved.
pub same-bus : (x : Bench) → Calm x → all_quiet x.bus ≡ true → bus_in (form_of x.bus x.memory) ≡ x.bus
same-bus x c q = (reads-back x.bus x.memory x.memory (calm-typed x c) c.ranged c.sized c.sized).bus ∙ calm-rested x c q

-- Read into the memory that it was saved with, the bench is as it was, bytes of absent slots too.
pub same-bench : (x : Bench) → Calm x → all_quiet x.bus ≡ true → restored (form_of x.bus x.memory) x.memory ≡ x
unfolding restored
same-bench x c q =
    let f = form_of x.bus x.memory in
    let back : ReadsBack x.bus x.memory x.memory = reads-back x.bus x.memory x.memory (calm-typed x c) c.ranged c.sized c.sized in
    let bytes : memory_in f x.memory ≡ x.memory
    = parts-ext slot_bytes slot_count (memory_in f x.memory) x.memory (length-read f x.memory ∙ c.sized) c.sized
    (λ k h. by-test (absent (get_or x.bus.slots k absent_slot)) (back.untouched k h)
    (λ a.
    let own : ℕ = bytes_of (get_or x.bus.slots k absent_slot).kind in
    sym (take-append-drop own (part slot_bytes k (memory_in f x.memory)))
    ∙ ap₂ ◌++◌ (back.own k h a) (back.over k h a)
    ∙ take-append-drop own (part slot_bytes k x.memory))) in
    λ i. record { bus = same-bus x c q i; memory = bytes i }

-- From setup, after any run of events:
pub same-bus-from-setup : (ps : List Pair) (m : List ℕ) (es : List Event) → length ps ≡ slot_count → length m ≡ memory_bytes
    → all_quiet (after es (begun ps m)).bus ≡ true
    → bus_in (form_of (after es (begun ps m)).bus (after es (begun ps m)).memory) ≡ (after es (begun ps m)).bus
same-bus-from-setup ps m es l w q = same-bus (after es (begun ps m)) (after-calm es (begun ps m) (setup-calm ps m l w)) q

-- and so after any alternation of events and restores behind a setup.
pub data Lived : Bench → Type 0 where
  set-up : (ps : List Pair) (m : List ℕ) → length ps ≡ slot_count → length m ≡ memory_bytes → Lived (begun ps m)
  went : (e : Event) (x : Bench) → Lived x → Lived (next e x)
  read : (f : List ℕ) (x : Bench) → accepted f x.memory ≡ true → Lived x → Lived (restored f x.memory)

pub lived-calm : (x : Bench) → Lived x → Calm x
lived-calm x (set-up ps m l w) = setup-calm ps m l w
lived-calm x (went e y h) = next-calm e y (lived-calm y h)
lived-calm x (read f y a h) = restored-calm f y.memory a (lived-calm y h).sized

pub same-bus-lived : (x : Bench) → Lived x → all_quiet x.bus ≡ true → bus_in (form_of x.bus x.memory) ≡ x.bus
same-bus-lived x h q = same-bus x (lived-calm x h) q
