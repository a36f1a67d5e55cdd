-- What a run from setup reaches of a slot: what the phase, the ticks left, the latch, the protection to come, the place and the word can be
-- together. Every act keeps it (`slot-reach`), so it holds of every slot after any run from setup (`reached`).
-- Assumes nothing.
use Prim.Native.Nat.{ℕ, ◌+◌, ◌%◌}
use native.Mathlib.Omega.{arith}
use mathlib.Core.Path.{◌≡◌, refl, sym, ◌∙◌, ap, subst}
use mathlib.Core.Logic.{◌⊎◌, inl, inr, ⊎_elim}
use mathlib.Core.Bool.{Bool, true, false, false≢true, not, cond, ◌&&◌, ◌||◌}
use mathlib.Core.List.{List}
use lib.Dec.{eqb, leb}
use borrow.Author.Tests.{eqb-true, eqb-false, ne_eqb, leb-true, not-false}
use Rattle.proof_lists.specs.Tests.{cond_cases, by-test, and_left, and_right}
use Rattle.rules.specs.declared.Act.{Act}
use Rattle.rules.specs.declared.Act.TheVariants.{Start, Byte, Read, Stop, Timeout, Tick, Power, Apply}
use Rattle.rules.specs.declared.Applied.TheVariants.{Voltage, Temperature, WriteProtect}
use Rattle.rules.specs.declared.Event.{Event}
use Rattle.rules.specs.declared.Heard.{Heard}
use Rattle.rules.specs.declared.Heard.TheVariants as heard
use Rattle.rules.specs.declared.Pair.{Pair}
use Rattle.rules.specs.declared.Phase.{Phase}
use Rattle.rules.specs.declared.Phase.TheVariants.{Idle, Control, Deaf, MemoryCounter, MemoryData, MemoryRead, HalfSelected, CommandAddress, CommandData, CommandStop, SensorPointer, SensorHigh, SensorLow, SensorReadHigh, SensorReadLow}
use Rattle.rules.specs.declared.Sensor as sensor
use Rattle.rules.specs.declared.Slot.{Slot}
use Rattle.rules.specs.Modelled.{absent, sensing, older}
use Rattle.rules.specs.Open.{open-fields, open-memory}
use Rattle.rules.specs.Fields.{in_phase, at_counter, with_voltage, with_sensor, holding}
use Rattle.rules.specs.Fresh.{no_bytes, no_marks, fresh_slot, setup_slot, absent_slot, powered, fresh_sensor, fresh_older}
use Rattle.rules.specs.Pin.{converted_with_pin}
use Rattle.rules.specs.Control.{acks_heard, acks_control, obeyed, controlled, protects, heard_by}
use Rattle.rules.specs.Memory.{emptied, ended, cancelled, guarded, latching, fetched, any_mark, ticked, pin_on}
use Rattle.rules.specs.Power.{power_cut}
use Rattle.rules.specs.Slot.{with_sensor_in, commanding, taking, standing, let_go, lost, pointer, first_byte, second_byte, byte_in, read_in, stop_in, switched, present_next, slot_next, endures, applied, shielded}
use Rattle.rules.specs.Refusals.{good_length, good_pair, setup_of}
use Rattle.rules.specs.Runs.{after}
use Rattle.rules.proofs.Document.Cycle.{idle-ticked}
use Rattle.rules.proofs.Run.Cases.{absent-next, present-next, heated-cases}
use Rattle.rules.proofs.Memory.Protection.{kind-next, length-next}
use Rattle.rules.proofs.Registers.Words.{word-fixed}
use Rattle.runs.proofs.FromSetup.Lasting.{Lasts, for_ever, asked-of-older, slot-lasts, fresh-lasts}
use Rattle.rules.proofs.Run.Everywhere.{Everywhere, after-everywhere, setup-everywhere}

-- what is to come, and what stands: a protection, and whether it will be permanent that was not (P9)
abbrev pub coming_of : Slot → List Bool × Bool
coming_of s = (s.coming, s.old.lasting)

abbrev pub stands_of : Slot → List Bool × Bool
stands_of s = (s.protection, false)

-- Nothing is held: no ticks left, nothing latched, nothing to come that does not stand, no place, no word. (Over the fields, so that a step
-- which replaces others needs no word.)
pub record Rests (left : ℕ) (latch : List ℕ) (marks : List Bool) (coming protection : List Bool × Bool) (place word : ℕ) : Type 0 where
  pub no-ticks : left ≡ 0
  pub no-bytes : latch ≡ no_bytes
  pub no-marks : marks ≡ no_marks
  pub steady : coming ≡ protection
  pub no_place : place ≡ 0
  pub no_word : word ≡ 0

-- Outside an exchange: nothing is held, or a page's cycle runs with its latched bytes, or a command's cycle with what it will bring.
pub data Waits (left : ℕ) (latch : List ℕ) (marks : List Bool) (coming protection : List Bool × Bool) (place word : ℕ) : Type 0 where
  rests : Rests left latch marks coming protection place word → Waits left latch marks coming protection place word
  page : (left ≡ 0 → ⊥) → any_mark marks ≡ true → coming ≡ protection → place ≡ 0 → word ≡ 0 → Waits left latch marks coming protection place word
  command : (left ≡ 0 → ⊥) → latch ≡ no_bytes → marks ≡ no_marks → place ≡ 0 → word ≡ 0 → Waits left latch marks coming protection place word

abbrev pub AtRest : Slot → Type 0
AtRest s = Rests s.left s.latch s.marks (coming_of s) (stands_of s) s.place s.sensor.word

abbrev pub Waiting : Slot → Type 0
Waiting s = Waits s.left s.latch s.marks (coming_of s) (stands_of s) s.place s.sensor.word

-- while data bytes are taken, in a protect or clear, and in an exchange with the sensor
pub record Takes (left : ℕ) (coming protection : List Bool × Bool) (place counter word : ℕ) : Type 0 where
  pub no-ticks : left ≡ 0
  pub steady : coming ≡ protection
  pub in_step : place ≡ counter % 16
  pub no_word : word ≡ 0

pub record Commands (kind left : ℕ) (latch : List ℕ) (marks : List Bool) (coming : List Bool × Bool) (voltage : Bool) (place word : ℕ) : Type 0 where
  pub no-ticks : left ≡ 0
  pub no-bytes : latch ≡ no_bytes
  pub no-marks : marks ≡ no_marks
  pub high : (eqb kind 3 && coming.1) ≡ false → voltage ≡ true
  pub no_place : place ≡ 0
  pub no_word : word ≡ 0

pub record Senses (kind left : ℕ) (latch : List ℕ) (marks : List Bool) (coming protection : List Bool × Bool) (place : ℕ) : Type 0 where
  pub kinds : eqb kind 2 ≡ true
  pub no-ticks : left ≡ 0
  pub no-bytes : latch ≡ no_bytes
  pub no-marks : marks ≡ no_marks
  pub steady : coming ≡ protection
  pub no_place : place ≡ 0

abbrev pub Taking : Slot → Type 0
Taking s = Takes s.left (coming_of s) (stands_of s) s.place s.counter s.sensor.word

abbrev pub Commanding : Slot → Type 0
Commanding s = Commands s.kind s.left s.latch s.marks (coming_of s) s.voltage s.place s.sensor.word

abbrev pub Sensing : Slot → Type 0
Sensing s = Senses s.kind s.left s.latch s.marks (coming_of s) (stands_of s) s.place

-- what a slot holds, by the phase that it is in
abbrev holds_at : Phase → ℕ → ℕ → List ℕ → List Bool → List Bool × Bool → List Bool × Bool → Bool → ℕ → ℕ → ℕ → Type 0
holds_at Idle kind left latch marks coming protection voltage place counter word = Waits left latch marks coming protection place word
holds_at Control kind left latch marks coming protection voltage place counter word = Waits left latch marks coming protection place word
holds_at Deaf kind left latch marks coming protection voltage place counter word = Waits left latch marks coming protection place word
holds_at MemoryCounter kind left latch marks coming protection voltage place counter word = Rests left latch marks coming protection place word
holds_at MemoryData kind left latch marks coming protection voltage place counter word = Takes left coming protection place counter word
holds_at MemoryRead kind left latch marks coming protection voltage place counter word = Rests left latch marks coming protection place word
holds_at HalfSelected kind left latch marks coming protection voltage place counter word = Rests left latch marks coming protection place word
holds_at CommandAddress kind left latch marks coming protection voltage place counter word = Commands kind left latch marks coming voltage place word
holds_at CommandData kind left latch marks coming protection voltage place counter word = Commands kind left latch marks coming voltage place word
holds_at CommandStop kind left latch marks coming protection voltage place counter word = Commands kind left latch marks coming voltage place word
holds_at SensorPointer kind left latch marks coming protection voltage place counter word = Senses kind left latch marks coming protection place × (word ≡ 0)
holds_at SensorHigh kind left latch marks coming protection voltage place counter word = Senses kind left latch marks coming protection place × (word ≡ 0)
holds_at SensorLow kind left latch marks coming protection voltage place counter word = Senses kind left latch marks coming protection place
holds_at SensorReadHigh kind left latch marks coming protection voltage place counter word = Senses kind left latch marks coming protection place
holds_at SensorReadLow kind left latch marks coming protection voltage place counter word = Senses kind left latch marks coming protection place

abbrev pub Holds : Phase → Slot → Type 0
Holds p s = holds_at p s.kind s.left s.latch s.marks (coming_of s) (stands_of s) s.voltage s.place s.counter s.sensor.word

abbrev Held : Slot → Type 0
Held s = Holds s.phase s

-- an absent slot is as setup left it; a present one has a cycle's length, and holds what its phase may, an older module's protection its one bit
pub data Reach (s : Slot) : Type 0 where
  none : s ≡ absent_slot → Reach s
  some : (s.kind ≡ 0 → ⊥) → (s.length ≡ 0 → ⊥) → Holds s.phase s → Lasts s → Reach s

-- outside an exchange: idle, deaf, or before the control byte
abbrev pub Outside : Phase → Type 0
Outside p = (p ≡ Idle) ⊎ ((p ≡ Deaf) ⊎ (p ≡ Control))

-- the phases that hold a register's bytes
abbrev pub worded : Phase → Bool
worded Idle = false
worded Control = false
worded Deaf = false
worded MemoryCounter = false
worded MemoryData = false
worded MemoryRead = false
worded HalfSelected = false
worded CommandAddress = false
worded CommandData = false
worded CommandStop = false
worded SensorPointer = false
worded SensorHigh = false
worded SensorLow = true
worded SensorReadHigh = true
worded SensorReadLow = true

-- What is held, by five kinds of phase, each with what tells it from the others.
module _ (P : Phase → Type 0) (s : Slot)
    (waits : (p : Phase) → Outside p → Waiting s → P p)
    (rests : (p : Phase) → with_sensor_in p ≡ false → commanding p ≡ false → taking p ≡ false → worded p ≡ false → AtRest s → P p)
    (takes : Taking s → P MemoryData)
    (commands : (p : Phase) → with_sensor_in p ≡ false → commanding p ≡ true → taking p ≡ false → worded p ≡ false → Commanding s → P p)
    (senses : (p : Phase) → with_sensor_in p ≡ true → commanding p ≡ false → taking p ≡ false → (worded p ≡ false → s.sensor.word ≡ 0) → Sensing s → P p) where
  pub holds_by : (p : Phase) → Holds p s → P p
  holds_by Idle h = waits Idle (inl refl) h
  holds_by Control h = waits Control (inr (inr refl)) h
  holds_by Deaf h = waits Deaf (inr (inl refl)) h
  holds_by MemoryCounter h = rests MemoryCounter refl refl refl refl h
  holds_by MemoryData h = takes h
  holds_by MemoryRead h = rests MemoryRead refl refl refl refl h
  holds_by HalfSelected h = rests HalfSelected refl refl refl refl h
  holds_by CommandAddress h = commands CommandAddress refl refl refl refl h
  holds_by CommandData h = commands CommandData refl refl refl refl h
  holds_by CommandStop h = commands CommandStop refl refl refl refl h
  holds_by SensorPointer h = senses SensorPointer refl refl refl (λ e. h.1) h.0
  holds_by SensorHigh h = senses SensorHigh refl refl refl (λ e. h.1) h.0
  holds_by SensorLow h = senses SensorLow refl refl refl (λ e. absurd (false≢true (sym e))) h
  holds_by SensorReadHigh h = senses SensorReadHigh refl refl refl (λ e. absurd (false≢true (sym e))) h
  holds_by SensorReadLow h = senses SensorReadLow refl refl refl (λ e. absurd (false≢true (sym e))) h

-- helpers on those fields: a command cancelled, a word released, and what a control byte of each family makes of a slot at rest
cancels : (s : Slot) → Commanding s → Waiting (cancelled s)
unfolding open-memory open-fields
cancels s h = rests (record { no-ticks = h.no-ticks; no-bytes = h.no-bytes; no-marks = h.no-marks; steady = refl; no_place = h.no_place; no_word = h.no_word })

releases : (s : Slot) → Sensing s → Waiting (holding 0x0000 s)
unfolding open-fields
releases s h = rests (record { no-ticks = h.no-ticks; no-bytes = h.no-bytes; no-marks = h.no-marks; steady = h.steady; no_place = h.no_place; no_word = refl })

senses : (s : Slot) → eqb s.kind 2 ≡ true → AtRest s → Sensing s
senses s k r = record { kinds = k; no-ticks = r.no-ticks; no-bytes = r.no-bytes; no-marks = r.no-marks; steady = r.steady; no_place = r.no_place }

commands : (c : List Bool × Bool) (s : Slot) → ((eqb s.kind 3 && c.1) ≡ false → s.voltage ≡ true) → AtRest s
    → Commands s.kind s.left s.latch s.marks c s.voltage s.place s.sensor.word
commands c s v r = record { no-ticks = r.no-ticks; no-bytes = r.no-bytes; no-marks = r.no-marks; high = v; no_place = r.no_place; no_word = r.no_word }

-- what is let go leaves nothing held, save what a cycle holds
let-go-waits : (p : Phase) (s : Slot) → Holds p s → Waiting (let_go p s)
unfolding let_go open-memory open-fields
let-go-waits Idle s h = h
let-go-waits Control s h = h
let-go-waits Deaf s h = h
let-go-waits MemoryCounter s h = rests h
let-go-waits MemoryData s h =
    rests (record { no-ticks = h.no-ticks; no-bytes = refl; no-marks = refl; steady = h.steady; no_place = refl; no_word = h.no_word })
let-go-waits MemoryRead s h = rests h
let-go-waits HalfSelected s h = rests h
let-go-waits CommandAddress s h = cancels s h
let-go-waits CommandData s h = cancels s h
let-go-waits CommandStop s h = cancels s h
let-go-waits SensorPointer s h = releases s h.0
let-go-waits SensorHigh s h = releases s h.0
let-go-waits SensorLow s h = releases s h
let-go-waits SensorReadHigh s h = releases s h
let-go-waits SensorReadLow s h = releases s h

-- a slot in no cycle that waits is at rest
quiet : (s : Slot) → Waiting s → s.left ≡ 0 → AtRest s
quiet s (rests r) e = r
quiet s (page l m c p w) e = absurd (l e)
quiet s (command l b m p w) e = absurd (l e)

-- the control byte that a slot at rest acknowledges
obeyed-holds : (h : Heard) (n : ℕ) (s : Slot) → acks_heard h n s ≡ true → (for_ever h ≡ true → older s ≡ true) → AtRest s → Held (obeyed h s)
unfolding obeyed acks_heard sensing older open-fields
obeyed-holds (heard.Memory k false) n s e o r = r
obeyed-holds (heard.Memory k true) n s e o r = r
obeyed-holds (heard.Sensor k false) n s e o r = (senses s (and_right (eqb k.0 n) (eqb s.kind 2) e) r, r.no_word)
obeyed-holds (heard.Sensor k true) n s e o r = senses s (and_right (eqb k.0 n) (eqb s.kind 2) e) r
obeyed-holds (heard.Protect k) n s e o r = commands _ s (λ f. and_left s.voltage (not (protects k s)) e) r
obeyed-holds heard.ClearAll n s e o r = commands _ s (λ f. e) r
obeyed-holds (heard.ReadProtection k) n s e o r = rests r
obeyed-holds (heard.SelectHalf h) n s e o r = r
obeyed-holds heard.ReadHalf n s e o r = rests r
obeyed-holds heard.ProtectForEver n s e o r = commands _ s (λ f. absurd (false≢true (sym f ∙ rw (o refl)))) r
obeyed-holds heard.Nothing n s e o r = rests r

controlled-holds : (n b : ℕ) (s : Slot) → Waiting s → Held (controlled n b s)
unfolding controlled acks_control open-fields
controlled-holds n b s w = cond_cases Held (acks_control n b s)
    (λ e. obeyed-holds (heard_by n b s) n s (and_right (eqb s.left 0) (acks_heard (heard_by n b s) n s) e) (asked-of-older n b s)
    (quiet s w (eqb-true s.left 0 (and_left (eqb s.left 0) (acks_heard (heard_by n b s) n s) e)))) (λ e. w)

-- a byte, a read and a stop in each phase
byte-holds : (p : Phase) (n b : ℕ) (s : Slot) → s.phase ≡ p → Holds p s → Held s → Held (byte_in p n b s)
unfolding byte_in let_go lost pointer first_byte second_byte open-memory open-fields
byte-holds Idle n b s e q h = h
byte-holds Control n b s e q h = controlled-holds n b s q
byte-holds Deaf n b s e q h = h
byte-holds MemoryCounter n b s e q h = record { no-ticks = q.no-ticks; steady = q.steady; in_step = refl; no_word = q.no_word }
byte-holds MemoryData n b s e q h = cond_cases Held (guarded s) (λ g. let-go-waits MemoryData s q)
    (λ g. subst (λ (p : Phase). Holds p (latching b s)) (sym e) (record { no-ticks = q.no-ticks; steady = q.steady; in_step = refl; no_word = q.no_word }))
byte-holds MemoryRead n b s e q h = rests q
byte-holds HalfSelected n b s e q h = h
byte-holds CommandAddress n b s e q h = q
byte-holds CommandData n b s e q h = q
byte-holds CommandStop n b s e q h = cancels s q
byte-holds SensorPointer n b s e q h = cond_cases Held (leb b 0x09) (λ g. q) (λ g. releases s q.0)
byte-holds SensorHigh n b s e q h = q.0
byte-holds SensorLow n b s e q h = releases s q
byte-holds SensorReadHigh n b s e q h = releases s q
byte-holds SensorReadLow n b s e q h = releases s q

read-holds : (p : Phase) (more : Bool) (s : Slot) → Holds p s → Held s → Held (read_in p more s)
unfolding read_in lost fetched open-fields
read-holds Idle more s q h = h
read-holds Control more s q h = q
read-holds Deaf more s q h = h
read-holds MemoryCounter more s q h = let-go-waits MemoryCounter s q
read-holds MemoryData more s q h = let-go-waits MemoryData s q
read-holds MemoryRead more s q h = cond_cases (λ (p : Phase). Holds p (at_counter ((s.counter + 1) % 256) s)) more (λ e. q) (λ e. rests q)
read-holds HalfSelected more s q h = let-go-waits HalfSelected s q
read-holds CommandAddress more s q h = let-go-waits CommandAddress s q
read-holds CommandData more s q h = let-go-waits CommandData s q
read-holds CommandStop more s q h = let-go-waits CommandStop s q
read-holds SensorPointer more s q h = let-go-waits SensorPointer s q
read-holds SensorHigh more s q h = let-go-waits SensorHigh s q
read-holds SensorLow more s q h = let-go-waits SensorLow s q
read-holds SensorReadHigh more s q h = cond_cases Held more (λ e. q) (λ e. let-go-waits SensorReadHigh s q)
read-holds SensorReadLow more s q h = let-go-waits SensorReadLow s q

stop-holds : (p : Phase) (s : Slot) → (s.length ≡ 0 → ⊥) → Holds p s → Waiting (stop_in p s)
unfolding stop_in let_go open-memory open-fields
stop-holds Idle s l q = q
stop-holds Control s l q = q
stop-holds Deaf s l q = q
stop-holds MemoryCounter s l q = rests q
stop-holds MemoryData s l q = cond_cases Waiting (any_mark s.marks) (λ e. page l e refl refl q.no_word) (λ e. let-go-waits MemoryData s q)
stop-holds MemoryRead s l q = rests q
stop-holds HalfSelected s l q = rests q
stop-holds CommandAddress s l q = cancels s q
stop-holds CommandData s l q = cancels s q
stop-holds CommandStop s l q = cond_cases Waiting (pin_on s) (λ e. cancels s q) (λ e. command l q.no-bytes q.no-marks refl q.no_word)
stop-holds SensorPointer s l q = let-go-waits SensorPointer s q
stop-holds SensorHigh s l q = let-go-waits SensorHigh s q
stop-holds SensorLow s l q = let-go-waits SensorLow s q
stop-holds SensorReadHigh s l q = let-go-waits SensorReadHigh s q
stop-holds SensorReadLow s l q = let-go-waits SensorReadLow s q

-- a tick: in no cycle nothing moves
tick-waits : (s : Slot) → Waiting s → Waiting (ticked s)
tick-waits s (rests r) = subst Waiting (sym (idle-ticked s r.no-ticks)) (rests r)
tick-waits s (page l m c p w) = unfold open-memory open-fields in cond_cases Waiting (eqb s.left 1)
    (λ e. rests (record { no-ticks = refl; no-bytes = refl; no-marks = refl; steady = refl; no_place = p; no_word = w }))
    (λ e. page (λ z. omega (arith, l, eqb-false s.left 1 e)) m c p w)
tick-waits s (command l b m p w) = unfold open-memory open-fields in cond_cases Waiting (eqb s.left 1)
    (λ e. rests (record { no-ticks = refl; no-bytes = refl; no-marks = refl; steady = refl; no_place = p; no_word = w }))
    (λ e. command (λ z. omega (arith, l, eqb-false s.left 1 e)) b m p w)

-- outside a waiting phase no ticks are left
no-ticks-in : (p : Phase) (s : Slot) → Holds p s → Outside p ⊎ (s.left ≡ 0)
no-ticks-in p s h = holds_by (λ p. Outside p ⊎ (s.left ≡ 0)) s (λ p o w. inl o) (λ p a b c d r. inr r.no-ticks) (λ r. inr r.no-ticks) (λ p a b c d r. inr r.no-ticks) (λ p a b c d r. inr r.no-ticks) p h

pub by-outside : (P : Phase → Type 0) (p : Phase) → P Idle → P Deaf → P Control → Outside p → P p
by-outside P p i d c o = ⊎_elim (λ e. subst P (sym e) i) (λ o. ⊎_elim (λ e. subst P (sym e) d) (λ e. subst P (sym e) c) o) o

tick-holds : (p : Phase) (s : Slot) → Holds p s → Holds p (ticked s)
tick-holds p s h = ⊎_elim (λ o. by-outside (λ q. Holds q s → Holds q (ticked s)) p (tick-waits s) (tick-waits s) (tick-waits s) o h) (λ e. subst (Holds p) (sym (idle-ticked s e)) h) (no-ticks-in p s h)

-- high voltage: a command whose voltage goes off is left, but the lasting form, so that it is on in the others that go on
still-high : (on : Bool) (s : Slot) → (s.voltage && not on && not (endures s)) ≡ false → Commanding s → Commanding (with_voltage on s)
unfolding with_voltage endures older
still-high on s e h = record {
  no-ticks = h.no-ticks;
  no-bytes = h.no-bytes;
  no-marks = h.no-marks;
  high = λ g. not-false on (and-true (not on) (subst (λ (l : Bool). (true && not on && not l) ≡ false) g (subst (λ (v : Bool). (v && not on && not (eqb s.kind 3 && s.old.lasting)) ≡ false) (h.high g) e)));
  no_place = h.no_place;
  no_word = h.no_word;
}
  where
    and-true : (a : Bool) → (a && true) ≡ false → a ≡ false
    and-true true e = e
    and-true false e = refl

voltage-holds : (p : Phase) (on : Bool) (s : Slot) → (commanding p && s.voltage && not on && not (endures s)) ≡ false → Holds p s → Holds p (with_voltage on s)
unfolding with_voltage
voltage-holds Idle on s e h = h
voltage-holds Control on s e h = h
voltage-holds Deaf on s e h = h
voltage-holds MemoryCounter on s e h = h
voltage-holds MemoryData on s e h = h
voltage-holds MemoryRead on s e h = h
voltage-holds HalfSelected on s e h = h
voltage-holds CommandAddress on s e h = still-high on s e h
voltage-holds CommandData on s e h = still-high on s e h
voltage-holds CommandStop on s e h = still-high on s e h
voltage-holds SensorPointer on s e h = h
voltage-holds SensorHigh on s e h = h
voltage-holds SensorLow on s e h = h
voltage-holds SensorReadHigh on s e h = h
voltage-holds SensorReadLow on s e h = h

switched-holds : (p : Phase) (on : Bool) (s : Slot) → s.phase ≡ p → Holds p s
    → Held (with_voltage on (cond (commanding p && s.voltage && not on && not (endures s)) (lost p s) s))
unfolding with_voltage lost in_phase
switched-holds p on s e h = cond_cases (λ (r : Slot). Held (with_voltage on r)) (commanding p && s.voltage && not on && not (endures s))
    (λ g. let-go-waits p s h) (λ g. subst (λ (q : Phase). Holds q (with_voltage on s)) (sym e) (voltage-holds p on s g h))

-- a sensor that keeps its word
worded-holds : (p : Phase) (x : sensor.Sensor) (s : Slot) → x.word ≡ s.sensor.word → Holds p s → Holds p (with_sensor x s)
unfolding with_sensor
worded-holds p x s e h =
    subst (λ (w : ℕ). holds_at p s.kind s.left s.latch s.marks (coming_of s) (stands_of s) s.voltage s.place s.counter w) (sym e) h

-- an exchange with the sensor stands only where there is one
has-sensor : (p : Phase) (s : Slot) → with_sensor_in p ≡ true → Holds p s → sensing s ≡ true
unfolding sensing
has-sensor p s e h = holds_by (λ p. with_sensor_in p ≡ true → eqb s.kind 2 ≡ true) s
    (λ p o w e. absurd (by-outside (λ q. with_sensor_in q ≡ true → ⊥) p false≢true false≢true false≢true o e)) (λ p a b c d r e. absurd (false≢true (sym a ∙ e))) (λ r e. absurd (false≢true e))
    (λ p a b c d r e. absurd (false≢true (sym a ∙ e))) (λ p a b c d r e. r.kinds) p h e

-- so a present slot stands in its own phase
pub stands-own : (s : Slot) → absent s ≡ false → Holds s.phase s → standing s ≡ s.phase
unfolding standing
stands-own s a h = by-test (with_sensor_in s.phase)
    (λ e. rw (a, has-sensor s.phase s e h) (cond_cases (λ (p : Phase). p ≡ s.phase) (with_sensor_in s.phase && false) (λ f. absurd (false≢true (and_right (with_sensor_in s.phase) false f))) (λ f. refl)))
    (λ e. rw (a, e))

-- the phase is not a tick's to change
tick-held : (s : Slot) → Holds s.phase (ticked s) → Held (ticked s)
unfolding ticked ended emptied open-fields
tick-held s h = by-test (eqb s.left 1) (λ e. rw e (rw e at h)) (λ e. rw e (rw e at h))

-- each act, of a present slot whose cycle has a length
present-holds : (n : ℕ) (a : Act) (s : Slot) → standing s ≡ s.phase → (s.length ≡ 0 → ⊥) → Held s → Held (present_next n a s)
unfolding present_next applied switched shielded power_cut powered fresh_slot fresh_sensor open-fields
present-holds n Start s e l h = subst (λ (p : Phase). Waiting (let_go p s)) (sym e) (let-go-waits s.phase s h)
present-holds n (Byte b) s e l h = subst (λ (p : Phase). Held (byte_in p n b s)) (sym e) (byte-holds s.phase n b s refl h h)
present-holds n (Read more) s e l h = subst (λ (p : Phase). Held (read_in p more s)) (sym e) (read-holds s.phase more s h h)
present-holds n Stop s e l h = subst (λ (p : Phase). Waiting (stop_in p s)) (sym e) (stop-holds s.phase s l h)
present-holds n Timeout s e l h = subst (λ (p : Phase). Waiting (let_go p s)) (sym e) (let-go-waits s.phase s h)
present-holds n Tick s e l h = tick-held s (tick-holds s.phase s h)
present-holds n (Power k) s e l h = rests (record { no-ticks = refl; no-bytes = refl; no-marks = refl; steady = refl; no_place = refl; no_word = refl })
present-holds n (Apply k (Voltage on)) s e l h = cond_cases Held (eqb k.0 n)
    (λ f. subst (λ (p : Phase). Held (with_voltage on (cond (commanding p && s.voltage && not on && not (endures s)) (lost p s) s))) (sym e) (switched-holds s.phase on s refl h)) (λ f. h)
present-holds n (Apply k (Temperature t)) s e l h = cond_cases Held (eqb k.0 n) (λ f. heated-cases Held t s (worded-holds s.phase (converted_with_pin s.sensor t) s (word-fixed s.sensor t) h) h) (λ f. h)
present-holds n (Apply k (WriteProtect on)) s e l h = cond_cases Held (eqb k.0 n) (λ f. cond_cases Held (older s) (λ o. h) (λ o. h)) (λ f. h)

-- every act keeps what is reached
pub slot-reach : (n : ℕ) (a : Act) (s : Slot) → Reach s → Reach (slot_next n a s)
slot-reach n a s (none e) = none (absent-next n a s (ap absent e ∙ unfold absent absent_slot fresh_slot in refl) ∙ e)
slot-reach n a s (some k l h w) =
    let there : absent s ≡ false = unfold absent in ne_eqb s.kind 0 k in
    some (λ e. k (sym (kind-next n a s) ∙ e)) (λ e. l (sym (length-next n a s) ∙ e))
    (subst Held (sym (present-next n a s there)) (present-holds n a s (stands-own s there h) l h)) (slot-lasts n a s w)

-- and setup begins with it
present-lasts : (p : Pair) → good_pair p ≡ true → eqb p.kind 0 ≡ false → p.length ≡ 0 → ⊥
unfolding good_pair good_length
present-lasts p g e z =
    let h = and_right (leb p.kind 3) (eqb p.kind 0 || (leb 1 p.length && leb p.length 5)) g in
    let l = leb-true 1 p.length (and_left (leb 1 p.length) (leb p.length 5) (rw e at h)) in
    omega (arith, l)

setup-reach : (p : Pair) → good_pair p ≡ true → Reach (setup_slot p)
unfolding setup_slot fresh_slot fresh_sensor fresh_older absent_slot
setup-reach p g = by-test (eqb p.kind 0)
    (λ e. none (rw (eqb-true p.kind 0 e)))
    (λ e. some (eqb-false p.kind 0 e) (rw e (present-lasts p g e))
    (rests (record { no-ticks = refl; no-bytes = refl; no-marks = refl; steady = refl; no_place = refl; no_word = refl })) (fresh-lasts p.kind _))

-- Every slot, after any run of events from setup.
pub reached : (ps : List Pair) (m : List ℕ) (es : List Event) → Everywhere Reach (after es (record { bus = (setup_of ps).bus; memory = m }))
reached ps m es = after-everywhere Reach slot-reach es _ (setup-everywhere Reach setup-reach (none refl) ps)
