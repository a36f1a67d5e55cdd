-- What is pending after any act and any run of acts of one slot: exactly when a change comes, when it goes, and that it stays otherwise, with the pin
-- asserted. "the law" is P8's: only a conversion brings a change; a write to 01h with bit 5 set, one behind which none can be pending, and power drop it.
-- Assumes nothing.
use Prim.Native.Nat.{ℕ, ◌+◌, ◌*◌, ◌/◌, ◌%◌}
use native.Mathlib.Omega.{arith}
use mathlib.Core.Path.{◌≡◌, refl, sym, ◌∙◌, ap}
use mathlib.Core.Bool.{Bool, true, false, false≢true, not, cond, ◌&&◌, ◌||◌, and-false, or-true}
use mathlib.Core.List.{List, [], ◌∷◌, ◌++◌}
use mathlib.Core.Logic.{◌⊎◌, inl, inr, ⊎_elim}
use borrow.Author.Tests.{eqb-true}
use lib.Dec.{eqb, leb}
use Rattle.proof_lists.specs.Tests.{cond_cases, and_left, and_right, both, or_cases}
use Rattle.rules.specs.declared.Act.{Act}
use Rattle.rules.specs.declared.Applied.TheVariants.{Voltage, Temperature, WriteProtect}
use Rattle.rules.specs.declared.Act.TheVariants.{Start, Byte, Read, Stop, Timeout, Tick, Power, Apply}
use Rattle.rules.specs.declared.Cut.{Cut}
use Rattle.rules.specs.declared.Phase.{Phase}
use Rattle.rules.specs.declared.Phase.TheVariants.{Idle, Control, Deaf, MemoryCounter, MemoryData, MemoryRead, HalfSelected, CommandAddress, CommandData, CommandStop, SensorPointer, SensorHigh, SensorLow, SensorReadHigh, SensorReadLow}
use Rattle.rules.specs.declared.Sensor.{Sensor}
use Rattle.rules.specs.declared.Slot.{Slot}
use Rattle.rules.specs.Control.{acks_control, heard_by}
use Rattle.rules.specs.Fields.{with_sensor, with_word}
use Rattle.rules.specs.Fresh.{fresh_sensor, fresh_slot, powered}
use Rattle.rules.specs.Memory.{guarded}
use Rattle.rules.specs.Modelled.{absent, sensing, older}
use Rattle.rules.specs.Open.{open-fields, open-memory, open-control, open-slot}
use Rattle.rules.specs.Pin.{pin_enabled, interrupting, critical_alone, asserted, can_pend, changes, clearing, pending_after, converted_with_pin, written_with_pin}
use Rattle.rules.specs.Power.{power_cut}
use Rattle.rules.specs.Runs.{slot_after}
use Rattle.rules.specs.Sensor.{configured, converted}
use Rattle.rules.specs.Slot.{standing, commanding, let_go, lost, byte_in, switched, heated, present_next, slot_next, applied, shielded, endures}
use Rattle.rules.proofs.Registers.Locks.{locked, configured-keeps}
use Rattle.rules.proofs.Registers.Masks.{same_bit}
use Rattle.rules.proofs.Registers.Pending.{Can, fresh-can, written-can, converted-can}
use Rattle.rules.proofs.Registers.SensorSteps.{gone, obeyed-goes, read_goes, stop_goes, Respected, step-respects}
use Rattle.rules.proofs.Run.Cases.{next-cases, absent-plain, absent-stands}
use Rattle.rules.proofs.Run.Joined.{slots-joined}

-- slot n converts a temperature, and the high or the low flag is then not what it was, while a change can be pending
unfoldable pub brings : ℕ → Act → Slot → Bool
brings n Start s = false
brings n (Byte b) s = false
brings n (Read more) s = false
brings n Stop s = false
brings n Timeout s = false
brings n Tick s = false
brings n (Power k) s = false
brings n (Apply k (Voltage on)) s = false
brings n (Apply k (Temperature t)) s =
    eqb k.0 n && sensing s && (can_pend s.sensor.configuration && changes s.sensor.temperature (converted s.sensor t).temperature)
brings n (Apply k (WriteProtect on)) s = false

-- the word of a write whose second byte is b
abbrev pub word_of : ℕ → Slot → ℕ
word_of b s = s.sensor.word / 256 * 256 + b

-- the byte b is the second of a write to 01h, with bit 5 set in the word, or with a configuration behind it that lets no change be pending
unfoldable pub clears : Phase → ℕ → Slot → Bool
clears Idle b s = false
clears Control b s = false
clears Deaf b s = false
clears MemoryCounter b s = false
clears MemoryData b s = false
clears MemoryRead b s = false
clears HalfSelected b s = false
clears CommandAddress b s = false
clears CommandData b s = false
clears CommandStop b s = false
clears SensorPointer b s = false
clears SensorHigh b s = false
clears SensorLow b s = eqb s.sensor.pointer 0x01 && not (can_pend (configured s.sensor.configuration (word_of b s)) && not (clearing (word_of b s)))
clears SensorReadHigh b s = false
clears SensorReadLow b s = false

-- slot n is given such a byte, or power is cycled
unfoldable pub drops : Act → Slot → Bool
drops Start s = false
drops (Byte b) s = clears (standing s) b s
drops (Read more) s = false
drops Stop s = false
drops Timeout s = false
drops Tick s = false
drops (Power k) s = not (absent s)
drops (Apply k x) s = false

-- what no act but these touches
abbrev Stays : Slot → Slot → Type 0
Stays s r = r.sensor.pending ≡ s.sensor.pending

abbrev Unmoved : Sensor → Sensor → Type 0
Unmoved x y = y.pending ≡ x.pending

worded : (v : ℕ) (x : Sensor) → Unmoved x (with_word v x)
unfolding with_word
worded v x = refl

let-go : (p : Phase) (s : Slot) → Stays s (let_go p s)
let-go = gone Unmoved (λ x. refl) worded

-- a write: by its register
second-pending : (x : Sensor) (p v : ℕ) → pending_after x p v ≡ (x.pending && not (eqb p 0x01 && not (can_pend (configured x.configuration v) && not (clearing v))))
unfolding pending_after
second-pending x p v = by_tests x.pending (eqb p 0x01) (can_pend (configured x.configuration v)) (not (clearing v))
  where
    by_tests : (a e c k : Bool) → cond e (a && c && k) a ≡ (a && not (e && not (c && k)))
    by_tests false true c k = refl
    by_tests false false c k = refl
    by_tests true true true true = refl
    by_tests true true true false = refl
    by_tests true true false k = refl
    by_tests true false c k = refl

and-not-false : (a : Bool) → a ≡ (a && not false)
and-not-false true = refl
and-not-false false = refl

byte-pending : (p : Phase) (n b : ℕ) (s : Slot) → (byte_in p n b s).sensor.pending ≡ (s.sensor.pending && not (clears p b s))
unfolding open-fields open-memory open-slot open-control clears written_with_pin
byte-pending Idle n b s = and-not-false _
byte-pending Control n b s = cond_cases (Stays s) (acks_control n b s) (λ e. obeyed-goes Unmoved (λ x. refl) worded (heard_by n b s) s) (λ e. refl) ∙ and-not-false _
byte-pending Deaf n b s = and-not-false _
byte-pending MemoryCounter n b s = and-not-false _
byte-pending MemoryData n b s = cond_cases (Stays s) (guarded s) (λ e. refl) (λ e. refl) ∙ and-not-false _
byte-pending MemoryRead n b s = and-not-false _
byte-pending HalfSelected n b s = and-not-false _
byte-pending CommandAddress n b s = and-not-false _
byte-pending CommandData n b s = and-not-false _
byte-pending CommandStop n b s = and-not-false _
byte-pending SensorPointer n b s = cond_cases (Stays s) (leb b 0x09) (λ e. refl) (λ e. refl) ∙ and-not-false _
byte-pending SensorHigh n b s = and-not-false _
byte-pending SensorLow n b s = second-pending s.sensor s.sensor.pointer (word_of b s)
byte-pending SensorReadHigh n b s = and-not-false _
byte-pending SensorReadLow n b s = and-not-false _

-- ONE ACT: what is pending after it was brought by it, or was pending and is not dropped by it.
abbrev Told : ℕ → Act → Slot → Slot → Type 0
Told n a s r = r.sensor.pending ≡ (brings n a s || (s.sensor.pending && not (drops a s)))

present-pending : (n : ℕ) (a : Act) (s : Slot) → absent s ≡ false → Told n a s (present_next n a s)
unfolding brings drops present_next applied switched heated shielded power_cut powered fresh_slot fresh_sensor lost converted_with_pin open-fields open-memory
present-pending n Start s e = let-go (standing s) s ∙ and-not-false _
present-pending n (Byte b) s e = byte-pending (standing s) n b s
present-pending n (Read more) s e = read_goes Unmoved (λ x. refl) worded (standing s) more s ∙ and-not-false _
present-pending n Stop s e = stop_goes Unmoved (λ x. refl) worded (standing s) s ∙ and-not-false _
present-pending n Timeout s e = let-go (standing s) s ∙ and-not-false _
present-pending n Tick s e = cond_cases (Stays s) (eqb s.left 1) (λ e. refl) (λ e. refl) ∙ and-not-false _
present-pending n (Power k) s e = rw e (sym (and-false s.sensor.pending))
present-pending n (Apply k (Voltage on)) s e =
    cond_cases (Stays s) (eqb k.0 n)
    (λ e. cond_cases (Stays s) (commanding (standing s) && s.voltage && not on && not (endures s)) (λ e. let-go (standing s) s) (λ e. refl))
    (λ e. refl) ∙ and-not-false _
present-pending n (Apply k (WriteProtect on)) s e =
    cond_cases (Stays s) (eqb k.0 n) (λ e. cond_cases (Stays s) (older s) (λ e. refl) (λ e. refl)) (λ e. refl) ∙ and-not-false _
present-pending n (Apply k (Temperature t)) s e =
    by_tests (eqb k.0 n) (sensing s) s.sensor.pending (can_pend s.sensor.configuration && changes s.sensor.temperature (converted s.sensor t).temperature)
    s (with_sensor (converted_with_pin s.sensor t) s) refl refl
  where
    by_tests : (here has was brought : Bool) (old new : Slot) → old.sensor.pending ≡ was → new.sensor.pending ≡ (was || brought)
        → (cond here (cond has new old) old).sensor.pending ≡ ((here && has && brought) || (was && not false))
    by_tests true true true true old new f g = g
    by_tests true true true false old new f g = g
    by_tests true true false true old new f g = g
    by_tests true true false false old new f g = g
    by_tests true false was brought old new f g = f ∙ and-not-false was
    by_tests false has was brought old new f g = f ∙ and-not-false was

-- an absent slot is given none of it
absent-pending : (n : ℕ) (a : Act) (s : Slot) → absent s ≡ true → Told n a s s
unfolding brings drops clears
absent-pending n Start s e = and-not-false _
absent-pending n (Byte b) s e = rw (absent-stands s e) (and-not-false _)
absent-pending n (Read more) s e = and-not-false _
absent-pending n Stop s e = and-not-false _
absent-pending n Timeout s e = and-not-false _
absent-pending n Tick s e = and-not-false _
absent-pending n (Power k) s e = rw e (and-not-false _)
absent-pending n (Apply k (Voltage on)) s e = and-not-false _
absent-pending n (Apply k (WriteProtect on)) s e = and-not-false _
absent-pending n (Apply k (Temperature t)) s e = rw (absent-plain s e, and-false (eqb k.0 n)) (and-not-false _)

pub pending_next : (n : ℕ) (a : Act) (s : Slot) → (slot_next n a s).sensor.pending ≡ (brings n a s || (s.sensor.pending && not (drops a s)))
pending_next n a s = next-cases (Told n a s) n a s (λ e. absent-pending n a s e) (λ e. present-pending n a s e)

-- RUNS: no act of one drops what is pending, from s on
unfoldable pub holds_over : ℕ → List Act → Slot → Bool
holds_over n [] s = true
holds_over n (a ∷ r) s = not (drops a s) && holds_over n r (slot_next n a s)

stays_on : (b p k : Bool) → p ≡ true → k ≡ true → (b || (p && k)) ≡ true
stays_on b p k e f = rw (e, f) (or-true b)

-- then it stays pending, whatever else comes
pub still-pending : (n : ℕ) (r : List Act) (s : Slot) → s.sensor.pending ≡ true → holds_over n r s ≡ true → (slot_after n r s).sensor.pending ≡ true
unfolding holds_over slot_after
still-pending n [] s p h = p
still-pending n (a ∷ r) s p h =
    let t = slot_next n a s in
    let k = and_left (not (drops a s)) (holds_over n r t) h in
    still-pending n r t (pending_next n a s ∙ stays_on (brings n a s) s.sensor.pending (not (drops a s)) p k) (and_right (not (drops a s)) (holds_over n r t) h)

-- A run in which a change was brought, and not dropped since.
pub record Pended (n : ℕ) (s : Slot) (r : List Act) : Type 0 where
  pub before : List Act
  pub by : Act
  pub since : List Act
  pub split : r ≡ before ++ by ∷ since
  pub brought : brings n by (slot_after n before s) ≡ true
  pub kept : holds_over n since (slot_next n by (slot_after n before s)) ≡ true

-- what is pending after a run was pending before it, and not dropped in it, or is such a change
pub story : (n : ℕ) (r : List Act) (s : Slot) → (slot_after n r s).sensor.pending ≡ true → ((s.sensor.pending ≡ true) × (holds_over n r s ≡ true)) ⊎ Pended n s r
unfolding holds_over slot_after
story n [] s p = inl (p, refl)
story n (a ∷ r) s p =
    let t = slot_next n a s in
    ⊎_elim
    (λ w.
    or_cases (brings n a s) (s.sensor.pending && not (drops a s)) (sym (pending_next n a s) ∙ w.0)
    (λ b. inr (record { before = []; by = a; since = r; split = refl; brought = b; kept = w.1 }))
    (λ k. inl (and_left s.sensor.pending (not (drops a s)) k, both (not (drops a s)) (holds_over n r t) (and_right s.sensor.pending (not (drops a s)) k) w.1)))
    (λ w. inr (record { before = a ∷ w.before; by = w.by; since = w.since; split = ap (λ (q : List Act). a ∷ q) w.split; brought = w.brought; kept = w.kept }))
    (story n r t p)

pub told_back : (n : ℕ) (r : List Act) (s : Slot) → Pended n s r → (slot_after n r s).sensor.pending ≡ true
unfolding slot_after
told_back n r s w =
    let t = slot_after n w.before s in
    ap (λ (q : List Act). (slot_after n q s).sensor.pending) w.split
    ∙ ap (λ (u : Slot). u.sensor.pending) (slots-joined n w.before (w.by ∷ w.since) s)
    ∙ still-pending n w.since (slot_next n w.by t) (pending_next n w.by t ∙ rw w.brought) w.kept

-- "asserts it until a write with bit 5 set": while a change is pending the pin is asserted
pub pending-asserts : (x : Sensor) → Can x → x.pending ≡ true → asserted x ≡ true
unfolding asserted can_pend
pending-asserts x f p =
    let c = x.configuration in
    let h = f p in
    let g = and_left (pin_enabled c && interrupting c) (not (critical_alone c)) h in
    rw (and_left (pin_enabled c) (interrupting c) g, and_right (pin_enabled c) (interrupting c) g, p)

abbrev Cans : Sensor → Sensor → Type 0
Cans x y = Can x → Can y

cans : Respected Cans
unfolding open-fields
cans = record { same = λ x f. f; joined = λ x y z f g h. g (f h); worded = λ v x f. f; pointed = λ b x l f. f; writes = written-can }

pub can-after : (n : ℕ) (r : List Act) (s : Slot) → Can s.sensor → Can (slot_after n r s).sensor
unfolding slot_after
can-after n [] s f = f
can-after n (a ∷ r) s f = can-after n r (slot_next n a s) (step-respects Cans cans n a s (λ e g. fresh-can) (λ t e. converted-can s.sensor t) f)

-- so over any run in which nothing drops the change it stays asserted
pub stays-asserted : (n : ℕ) (r : List Act) (s : Slot) → Can s.sensor → s.sensor.pending ≡ true → holds_over n r s ≡ true → asserted (slot_after n r s).sensor ≡ true
stays-asserted n r s f p h = pending-asserts (slot_after n r s).sensor (can-after n r s f) (still-pending n r s p h)

-- UNDER A LOCK bits 3:0 keep, so that a write leaves the mode as it is
pub mode-locked : (c v : ℕ) → locked c ≡ true → can_pend (configured c v) ≡ can_pend c
unfolding can_pend pin_enabled interrupting critical_alone
mode-locked c v l =
    let m = configured-keeps c v l in
    let three = same_bit 3 0x060F (configured c v) c refl m in
    let two = same_bit 2 0x060F (configured c v) c refl m in
    let none = same_bit 0 0x060F (configured c v) c refl m in
    let last : configured c v % 2 ≡ c % 2 = omega (arith, none) in
    rw (three, two, last)

-- and only bit 5 drops what is pending
pub under-lock : (x : Sensor) (v : ℕ) → locked x.configuration ≡ true → Can x → x.pending ≡ true → pending_after x 0x01 v ≡ not (clearing v)
unfolding pending_after
under-lock x v l f p = rw (p, mode-locked x.configuration v l, f p)

-- The byte b is the second of a write to 01h, with bit 5 set in its word.
pub record Bit5 (b : ℕ) (s : Slot) : Type 0 where
  pub phase : standing s ≡ SensorLow
  pub pointer : s.sensor.pointer ≡ 0x01
  pub set : clearing (word_of b s) ≡ true

-- so under a lock only that and power release a pin that a change has asserted
pub data Released (s : Slot) : Act → Type 0 where
  by_bit5 : (b : ℕ) → Bit5 b s → Released s (Byte b)
  by_power : (k : Cut) → Released s (Power k)

twice : (b : Bool) → not (true && not b) ≡ true → b ≡ true
twice true e = refl
twice false e = e

module _ (s : Slot) (l : locked s.sensor.configuration ≡ true) (can : can_pend s.sensor.configuration ≡ true) where
  cleared : (p : Phase) (b : ℕ) → standing s ≡ p → clears p b s ≡ true → Bit5 b s
  unfolding clears
  cleared Idle b e h = absurd (false≢true h)
  cleared Control b e h = absurd (false≢true h)
  cleared Deaf b e h = absurd (false≢true h)
  cleared MemoryCounter b e h = absurd (false≢true h)
  cleared MemoryData b e h = absurd (false≢true h)
  cleared MemoryRead b e h = absurd (false≢true h)
  cleared HalfSelected b e h = absurd (false≢true h)
  cleared CommandAddress b e h = absurd (false≢true h)
  cleared CommandData b e h = absurd (false≢true h)
  cleared CommandStop b e h = absurd (false≢true h)
  cleared SensorPointer b e h = absurd (false≢true h)
  cleared SensorHigh b e h = absurd (false≢true h)
  cleared SensorLow b e h =
      let c = s.sensor.configuration in
      let v = word_of b s in
      let k = and_right (eqb s.sensor.pointer 0x01) (not (can_pend (configured c v) && not (clearing v))) h in
      record {
        phase = e;
        pointer = eqb-true _ _ (and_left (eqb s.sensor.pointer 0x01) (not (can_pend (configured c v) && not (clearing v))) h);
        set = twice (clearing v) (rw (mode-locked c v l, can) at k);
      }
  cleared SensorReadHigh b e h = absurd (false≢true h)
  cleared SensorReadLow b e h = absurd (false≢true h)

  pub released-locked : (a : Act) → drops a s ≡ true → Released s a
  unfolding drops
  released-locked Start h = absurd (false≢true h)
  released-locked (Byte b) h = by_bit5 b (cleared (standing s) b refl h)
  released-locked (Read more) h = absurd (false≢true h)
  released-locked Stop h = absurd (false≢true h)
  released-locked Timeout h = absurd (false≢true h)
  released-locked Tick h = absurd (false≢true h)
  released-locked (Power k) h = by_power k
  released-locked (Apply k x) h = absurd (false≢true h)
