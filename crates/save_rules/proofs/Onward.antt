-- Request P5: after a restore the bench goes on as if it had never been saved: the same answers to every run of events, the same bus after it, and the same
-- bytes of every present slot (of an older one those that are its own: nothing looks at its upper 256, and no form has them).
-- Assumes nothing.
use Rattle.std.specs.Prelude.{Ok, Err}
use Prim.Native.Nat.{ℕ, ◌-◌, ◌*◌, min, ◌≤◌, ◌<◌}
use native.Mathlib.Nat.{zero-add}
use native.Mathlib.Omega.{arith}
use mathlib.Core.Path.{◌≡◌, refl, sym, ◌∙◌, ap, ap₂, subst}
use mathlib.Core.Bool.{true, false, false≢true, not, cond}
use mathlib.Core.List.{List, [], ◌∷◌}
use lib.Dec.{eqb, ltb}
use lib.ListN.{length, get_or, take, length-take, get_or-eq_default}
use lib.Seq.{get_or-take, take_all, ext_get_or}
use borrow.Author.Tests.{ltb-true, ltb-false}
use Rattle.proof_lists.specs.Alike.{first_alike}
use Rattle.proof_lists.specs.Each.{first_from, list_all-at}
use Rattle.proof_lists.specs.Parts.{part, length_part}
use Rattle.proof_lists.specs.Tests.{by-test}
use Rattle.rules.specs.declared.Act.{Act}
use Rattle.rules.specs.declared.Answer.TheVariants.{Data}
use Rattle.rules.specs.declared.Bus.{Bus}
use Rattle.rules.specs.declared.Carried.{Carried}
use Rattle.rules.specs.declared.Carried.TheVariants as carries
use Rattle.rules.specs.declared.Event.{Event}
use Rattle.rules.specs.declared.Pair.{Pair}
use Rattle.rules.specs.declared.Phase.{Phase}
use Rattle.rules.specs.declared.Phase.TheVariants.{Idle, Control, Deaf, MemoryCounter, MemoryData, MemoryRead, HalfSelected, CommandAddress, CommandData, CommandStop, SensorPointer, SensorHigh, SensorLow, SensorReadHigh, SensorReadLow}
use Rattle.rules.specs.Refusals.{Ruling}
use Rattle.rules.specs.declared.Slot.{Slot}
use Rattle.rules.specs.Modelled.{slot_count, slot_bytes, memory_bytes, absent, older, bytes_of, address_of}
use Rattle.rules.specs.Events.{carried}
use Rattle.rules.specs.Fresh.{absent_slot}
use Rattle.rules.specs.Slot.{standing, drives_in, drives, driven_in, driven, slot_next, part_next}
use Rattle.rules.specs.Bus.{bus_next, read_byte, shown_for, shown}
use Rattle.rules.specs.declared.Refusal.TheVariants.{MemoryLength, WrongState}
use Rattle.rules.specs.Refusals.{wrong_length, kinds_of, slot_in_range, in_range, ruled_by, ruling}
use Rattle.rules.specs.Runs.{Bench, taken, given, ruling_on, ruled_next, ruled_answer, next, answered, after, answers}
use Rattle.rules.proofs.Memory.Protection.{kind-next, number-taken}
use Rattle.rules.proofs.Memory.Stored.{length-part_next, byte_after, part-byte, memory-length-next}
use Rattle.rules.proofs.Range.Kept.{InRange, facts, next-in-range}
use Rattle.rules.proofs.Run.Cases.{absent-stands}
use Rattle.runs.proofs.TwoClerks.Alone.{slot_at, part_of, slots_of, slot-taken, part-taken}
use Rattle.runs.proofs.TwoClerks.Demand3.{begun}
use Rattle.save_rules.specs.Form.{form_of}
use Rattle.save_rules.specs.Saving.{all_quiet}
use Rattle.save_rules.specs.Reading.{restored}
use Rattle.save_rules.proofs.Bytes.{length-read}
use Rattle.save_rules.proofs.Back.{reads-back}
use Rattle.save_rules.proofs.OneForm.{Calm, calm-typed, setup-calm, after-calm, same-bus, Lived, lived-calm}

-- the first n bytes of two slots' 512 are alike, one by one, and as a whole
abbrev pub AlikeTo : ℕ → List ℕ → List ℕ → Type 0
AlikeTo n p q = (i : ℕ) → i < n → get_or p i 0 ≡ get_or q i 0

taken-alike : (n : ℕ) (p q : List ℕ) → take n p ≡ take n q → AlikeTo n p q
taken-alike n p q e i h = sym (get_or-take n p i 0 h) ∙ ap (λ (l : List ℕ). get_or l i 0) e ∙ get_or-take n q i 0 h

alike-taken : (n : ℕ) (p q : List ℕ) → length p ≡ length q → AlikeTo n p q → take n p ≡ take n q
alike-taken n p q l e = ext_get_or 0 (take n p) (take n q) (rw (length-take, l) (sym (length-take n q)))
    (λ i h. let j : i < n = omega (arith, h, length-take n p) in get_or-take n p i 0 j ∙ e i j ∙ sym (get_or-take n q i 0 j))

-- two benches with the same bus, in range, of which every present slot has the same bytes as far as they are its own, and with memories of the same length
pub record Alike (x y : Bench) : Type 0 where
  pub bus : x.bus ≡ y.bus
  pub ranged : in_range y.bus ≡ true
  pub bytes : (k : ℕ) → k < length (slots_of y) → absent (slot_at absent_slot k y) ≡ false → AlikeTo (bytes_of (slot_at absent_slot k y).kind) (part_of k x) (part_of k y)
  pub sized : length x.memory ≡ length y.memory

-- a slot in range reads a byte that is its own, and what an act puts at a place goes by what stands there
own-address : (s : Slot) → InRange s → (address_of s).0 < bytes_of s.kind
unfolding address_of bytes_of
own-address s v = by-test (eqb s.kind 3)
    (λ o. rw o (omega (arith, (v.olders o).first-half, v.counters)))
    (λ o. rw o (omega (arith, v.halves, v.counters)))

driven-own : (p : Phase) (s : Slot) (m o : List ℕ) → InRange s → AlikeTo (bytes_of s.kind) m o → driven_in p s m ≡ driven_in p s o
unfolding driven_in
driven-own Idle s m o v e = refl
driven-own Control s m o v e = refl
driven-own Deaf s m o v e = refl
driven-own MemoryCounter s m o v e = refl
driven-own MemoryData s m o v e = refl
driven-own MemoryRead s m o v e = e (address_of s).0 (own-address s v)
driven-own HalfSelected s m o v e = refl
driven-own CommandAddress s m o v e = refl
driven-own CommandData s m o v e = refl
driven-own CommandStop s m o v e = refl
driven-own SensorPointer s m o v e = refl
driven-own SensorHigh s m o v e = refl
driven-own SensorLow s m o v e = refl
driven-own SensorReadHigh s m o v e = refl
driven-own SensorReadLow s m o v e = refl

next-own : (n : ℕ) (b : Act) (s : Slot) (p q : List ℕ) → length p ≡ length q → AlikeTo n p q → AlikeTo n (part_next b s p) (part_next b s q)
next-own n b s p q l e i h = by-test (ltb i (length p))
    (λ f.
    let j : i < length p = ltb-true i (length p) f in
    part-byte b s p i 0 j ∙ ap (byte_after b s i) (e i h) ∙ sym (part-byte b s q i 0 (rw (sym l) j)))
    (λ f.
    let j : length p ≤ i = ltb-false i (length p) f in
    get_or-eq_default (part_next b s p) 0 (rw length-part_next j) ∙ sym (get_or-eq_default (part_next b s q) 0 (rw (length-part_next, sym l) j)))

slot-in-range : (y : Bench) → in_range y.bus ≡ true → (k : ℕ) → k < length (slots_of y) → InRange (slot_at absent_slot k y)
unfolding in_range
slot-in-range y r k h = facts (slot_at absent_slot k y) (list_all-at slot_in_range k (slots_of y) absent_slot h r)

same_length : (x y : Bench) (k : ℕ) → length x.memory ≡ length y.memory → length (part_of k x) ≡ length (part_of k y)
same_length x y k l = length_part slot_bytes k x.memory ∙ ap (λ (n : ℕ). min slot_bytes (n - slot_bytes * k)) l ∙ sym (length_part slot_bytes k y.memory)

-- a slot that drives is present, so that only bytes of present slots are read
drives-present : (s : Slot) → drives s ≡ true → absent s ≡ false
unfolding drives
drives-present s d = by-test (absent s) (λ a. absurd (false≢true (ap drives_in (sym (absent-stands s a)) ∙ d))) (λ a. a)

read_alike : (x y : Bench) → Alike x y → read_byte x.bus x.memory ≡ read_byte y.bus y.memory
unfolding read_byte driven
read_alike x y a =
    ap (λ (b : Bus). first_from (λ n s. drives s) (λ n s. driven (part slot_bytes n x.memory) s) 0xFF 0 b.slots) a.bus
    ∙ first_alike (λ n s. drives s) (λ n s. driven (part slot_bytes n x.memory) s) (λ n s. driven (part slot_bytes n y.memory) s) 0xFF absent_slot 0 (slots_of y)
    (λ i l t. rw zero-add
    (driven-own (standing (slot_at absent_slot i y)) (slot_at absent_slot i y) (part_of i x) (part_of i y) (slot-in-range y a.ranged i l)
    (a.bytes i l (drives-present (slot_at absent_slot i y) t))))

shown-alike : (c : Carried) (x y : Bench) → Alike x y → shown_for c x.bus x.memory ≡ shown_for c y.bus y.memory
unfolding shown_for
shown-alike (carries.Byte v) x y a = ap (λ (b : Bus). shown_for (carries.Byte v) b x.memory) a.bus
shown-alike (carries.Read more) x y a = ap Data (read_alike x y a)
shown-alike carries.Nothing x y a = refl

given-alike : (r : Ruling) (x y : Bench) → Alike x y → ruled_answer r x ≡ ruled_answer r y
unfolding ruled_answer given shown
given-alike (Ok b) x y a = shown-alike (carried b) x y a
given-alike (Err r) x y a = refl

-- an act: the bus, and the bytes of a present slot, which was present before
below_alike : (x y : Bench) → Alike x y → (k : ℕ) → k < length (slots_of y) → k < length (slots_of x)
below_alike x y a k h = subst (λ (b : Bus). k < length b.slots) (sym a.bus) h

was-present : (n : ℕ) (b : Act) (s : Slot) → absent (slot_next n b s) ≡ false → absent s ≡ false
unfolding absent
was-present n b s e = ap (λ (k : ℕ). eqb k 0) (sym (kind-next n b s)) ∙ e

taken-bytes : (b : Act) (x y : Bench) → Alike x y → (k : ℕ) → k < length (slots_of y) → absent (slot_at absent_slot k (taken b y)) ≡ false
    → AlikeTo (bytes_of (slot_at absent_slot k (taken b y)).kind) (part_of k (taken b x)) (part_of k (taken b y))
taken-bytes b x y a k h e i l =
    let s = slot_at absent_slot k y in
    let here : absent s ≡ false = was-present k b s (ap absent (sym (slot-taken absent_slot k b y h)) ∙ e) in
    let kind : (slot_at absent_slot k (taken b y)).kind ≡ s.kind = ap (λ (r : Slot). r.kind) (slot-taken absent_slot k b y h) ∙ kind-next k b s in
    let first : part_of k (taken b x) ≡ part_next b s (part_of k x)
    = part-taken absent_slot k b x (below_alike x y a k h) ∙ ap (λ (c : Bus). part_next b (get_or c.slots k absent_slot) (part_of k x)) a.bus in
    ap (λ (p : List ℕ). get_or p i 0) first
    ∙ next-own (bytes_of s.kind) b s (part_of k x) (part_of k y) (same_length x y k a.sized) (a.bytes k h here) i (rw (sym kind) l)
    ∙ ap (λ (p : List ℕ). get_or p i 0) (sym (part-taken absent_slot k b y h))

ruled-bytes : (r : Ruling) (x y : Bench) → Alike x y → (k : ℕ) → k < length (slots_of (ruled_next r y)) → absent (slot_at absent_slot k (ruled_next r y)) ≡ false
    → AlikeTo (bytes_of (slot_at absent_slot k (ruled_next r y)).kind) (part_of k (ruled_next r x)) (part_of k (ruled_next r y))
unfolding ruled_next
ruled-bytes (Ok b) x y a k h e = taken-bytes b x y a k (rw number-taken at h) e
ruled-bytes (Err r) x y a k h e = a.bytes k h e

ruled-bus : (r : Ruling) (x y : Bench) → Alike x y → (ruled_next r x).bus ≡ (ruled_next r y).bus
unfolding ruled_next taken
ruled-bus (Ok b) x y a = ap (bus_next b) a.bus
ruled-bus (Err r) x y a = a.bus

-- an event is judged alike, answered alike, and leaves the two alike
ruling-alike : (e : Event) (x y : Bench) → Alike x y → ruling_on e x ≡ ruling_on e y
unfolding ruling_on ruling wrong_length
ruling-alike e x y a =
    ap₂ (λ (b : Bus) (n : ℕ). cond (not (eqb n memory_bytes)) (Err MemoryLength) (cond (not (in_range b)) (Err WrongState) (ruled_by (kinds_of b) e))) a.bus a.sized

pub answered-alike : (e : Event) (x y : Bench) → Alike x y → answered e x ≡ answered e y
unfolding answered
answered-alike e x y a = ap (λ (r : Ruling). ruled_answer r x) (ruling-alike e x y a) ∙ given-alike (ruling_on e y) x y a

pub next-alike : (e : Event) (x y : Bench) → Alike x y → Alike (next e x) (next e y)
unfolding next
next-alike e x y a =
    let q : ruling_on e x ≡ ruling_on e y = ruling-alike e x y a in
    record {
      bus = ap (λ (r : Ruling). (ruled_next r x).bus) q ∙ ruled-bus (ruling_on e y) x y a;
      ranged = next-in-range e y a.ranged;
      bytes = λ k h i j l. ap (λ (r : Ruling). get_or (part_of k (ruled_next r x)) j 0) q ∙ ruled-bytes (ruling_on e y) x y a k h i j l;
      sized = memory-length-next e x ∙ a.sized ∙ sym (memory-length-next e y);
    }

-- a run
pub after-alike : (es : List Event) (x y : Bench) → Alike x y → Alike (after es x) (after es y)
unfolding after
after-alike [] x y a = a
after-alike (e ∷ es) x y a = after-alike es (next e x) (next e y) (next-alike e x y a)

pub answers-alike : (es : List Event) (x y : Bench) → Alike x y → answers es x ≡ answers es y
unfolding answers
answers-alike [] x y a = refl
answers-alike (e ∷ es) x y a = ap₂ ◌∷◌ (answered-alike e x y a) (answers-alike es (next e x) (next e y) (next-alike e x y a))

-- a bench, and what its form restores to
restored-alike : (x : Bench) (n : List ℕ) → Calm x → all_quiet x.bus ≡ true → length n ≡ memory_bytes → Alike (restored (form_of x.bus x.memory) n) x
unfolding restored
restored-alike x n c q l =
    let f = form_of x.bus x.memory in
    record {
      bus = same-bus x c q;
      ranged = c.ranged;
      bytes = λ k h e. taken-alike _ _ _ ((reads-back x.bus x.memory n (calm-typed x c) c.ranged c.sized l).own k (rw c.slots at h) e);
      sized = length-read f n ∙ l ∙ sym c.sized;
    }

-- the runs after it
pub record GoesOn (x y : Bench) (es : List Event) : Type 0 where
  pub told : answers es y ≡ answers es x
  pub bus : (after es y).bus ≡ (after es x).bus
  pub own : (k : ℕ) → k < slot_count → absent (slot_at absent_slot k (after es x)) ≡ false
      → take (bytes_of (slot_at absent_slot k (after es x)).kind) (part_of k (after es y)) ≡ take (bytes_of (slot_at absent_slot k (after es x)).kind) (part_of k (after es x))
  pub bytes : (k : ℕ) → k < slot_count → absent (slot_at absent_slot k (after es x)) ≡ false → older (slot_at absent_slot k (after es x)) ≡ false
      → part_of k (after es y) ≡ part_of k (after es x)

-- of a slot that is no older one, all 512 bytes are its own
all_own : (s : Slot) (p q : List ℕ) → older s ≡ false → length p ≤ slot_bytes → length q ≤ slot_bytes → take (bytes_of s.kind) p ≡ take (bytes_of s.kind) q → p ≡ q
unfolding bytes_of older
all_own s p q o l w e = sym (take_all slot_bytes p l) ∙ (rw o at e) ∙ take_all slot_bytes q w

no_longer : (k : ℕ) (x : Bench) → length (part_of k x) ≤ slot_bytes
no_longer k x = omega (arith, length_part slot_bytes k x.memory)

-- A bench from setup or a restore, with any run behind it, that is saved and read back into any memory goes on as if it had not been saved.
pub goes-on : (x : Bench) (n : List ℕ) (es : List Event) → Calm x → all_quiet x.bus ≡ true → length n ≡ memory_bytes
    → GoesOn x (restored (form_of x.bus x.memory) n) es
goes-on x n es c q l =
    let y = restored (form_of x.bus x.memory) n in
    let a : Alike y x = restored-alike x n c q l in
    let z : Alike (after es y) (after es x) = after-alike es y x a in
    let own : (k : ℕ) → k < slot_count → absent (slot_at absent_slot k (after es x)) ≡ false
    → take (bytes_of (slot_at absent_slot k (after es x)).kind) (part_of k (after es y)) ≡ take (bytes_of (slot_at absent_slot k (after es x)).kind) (part_of k (after es x))
    = λ k h e. alike-taken _ (part_of k (after es y)) (part_of k (after es x)) (same_length (after es y) (after es x) k z.sized) (z.bytes k (rw (after-calm es x c).slots h) e) in
    record {
      told = answers-alike es y x a;
      bus = z.bus;
      own = own;
      bytes = λ k h e o. all_own (slot_at absent_slot k (after es x)) _ _ o (no_longer k (after es y)) (no_longer k (after es x)) (own k h e);
    }

-- From setup, with the run `before` behind it when it is saved, and the run `es` after it is restored:
pub goes-on-from-setup : (ps : List Pair) (m n : List ℕ) (before es : List Event) → length ps ≡ slot_count → length m ≡ memory_bytes → length n ≡ memory_bytes
    → all_quiet (after before (begun ps m)).bus ≡ true
    → GoesOn (after before (begun ps m)) (restored (form_of (after before (begun ps m)).bus (after before (begun ps m)).memory) n) es
goes-on-from-setup ps m n before es l w v q = goes-on (after before (begun ps m)) n es (after-calm before (begun ps m) (setup-calm ps m l w)) q v

-- and so behind any alternation of events and restores:
pub goes-on-lived : (x : Bench) (n : List ℕ) (es : List Event) → Lived x → all_quiet x.bus ≡ true → length n ≡ memory_bytes
    → GoesOn x (restored (form_of x.bus x.memory) n) es
goes-on-lived x n es h q l = goes-on x n es (lived-calm x h) q l
