-- Row 6: setup's bus is in range, and every event keeps the range; so no run from setup, refused events among it, meets refusal 6.
-- Assumes nothing.
use Rattle.std.specs.Prelude.{Ok, Err}
use Prim.Native.Nat.{ℕ, ◌-◌, ◌/◌, ◌≤◌}
use native.Mathlib.Omega.{arith}
use mathlib.Core.Path.{◌≡◌, refl, sym, ◌∙◌, ap}
use mathlib.Core.Bool.{Bool, true, false, false≢true, not, cond, ◌&&◌, ◌||◌}
use mathlib.Core.List.{List, [], ◌∷◌, map}
use lib.Dec.{eqb, leb, ltb}
use lib.IntN.{ℤ, pos, negsuc, nat_abs}
use borrow.Author.Tests.{leb-true, ltb-false, le-leb, not-true}
use Rattle.proof_lists.specs.Each.{list_all-map_from}
use Rattle.std.specs.List.{list_all}
use Rattle.proof_lists.specs.Tests.{cond_cases, by-test, and_left, and_right, both, or_right_false}
use Rattle.rules.specs.declared.Act.{Act}
use Rattle.rules.specs.declared.Act.TheVariants.{Start, Byte, Read, Stop, Timeout, Tick, Power, Apply}
use Rattle.rules.specs.declared.Answer.{Answer}
use Rattle.rules.specs.declared.Answer.TheVariants as answer
use Rattle.rules.specs.declared.Bus.{Bus}
use Rattle.rules.specs.declared.Cut.{Cut}
use Rattle.rules.specs.declared.Carried.{Carried}
use Rattle.rules.specs.declared.Carried.TheVariants as carries
use Rattle.rules.specs.declared.Event.{Event}
use Rattle.rules.specs.declared.Heard.{Heard}
use Rattle.rules.specs.declared.Heard.TheVariants.{Memory, Sensor, Protect, ClearAll, ReadProtection, SelectHalf, ReadHalf, ProtectForEver, Nothing}
use Rattle.rules.specs.declared.Outcome.{Outcome}
use Rattle.rules.specs.declared.Pair.{Pair}
use Rattle.rules.specs.declared.Phase.{Phase}
use Rattle.rules.specs.declared.Phase.TheVariants.{Idle, Control, Deaf, MemoryCounter, MemoryData, MemoryRead, HalfSelected, CommandAddress, CommandData, CommandStop, SensorPointer, SensorHigh, SensorLow, SensorReadHigh, SensorReadLow}
use Rattle.rules.specs.Refusals.{Ruling}
use Rattle.rules.specs.declared.Sensor as sensor
use Rattle.rules.specs.declared.Slot.{Slot}
use Rattle.rules.specs.Open.{open-fields, open-all}
use Rattle.rules.specs.Fields as Fields
use Rattle.rules.specs.Fields.{in_phase, with_left}
use Rattle.rules.specs.Events.{act_of, carried, refusal_number}
use Rattle.rules.specs.Fresh.{fresh_slot, setup_slot, powered, fresh_older}
use Rattle.rules.specs.Control.{command_of, heard_of, acks_control, obeyed, controlled, heard_by, older_command, raised_command, own_command, select_of, is_read}
use Rattle.rules.specs.Memory.{emptied, abandoned, cancelled, loaded, guarded, up_in_page, latching, data_byte, fetched, any_mark, begun, data_stop, ended, ticked, command_stop, pin_on}
use Rattle.rules.specs.Modelled.{sensing, older}
use Rattle.rules.specs.Pin.{converted_with_pin}
use Rattle.rules.specs.Power.{finished, power_cut}
use Rattle.rules.specs.Slot.{standing, let_go, lost, pointer, first_byte, second_byte, byte_in, read_in, stop_in, present_next, slot_next}
use Rattle.rules.specs.Bus.{bus_next, shown_for, shown, any_ack}
use Rattle.rules.specs.Refusals.{outside, wrong_value, good_length, good_pair, kind_in_range, length_in_range, sensor_in_range, pending_in_range, slot_in_range, in_range, setup_of, older_in_range}
use Rattle.rules.specs.Runs.{Bench, taken, given, ruling_on, ruled_next, ruled_answer, next, answered, after, answers}
use Rattle.rules.proofs.Run.Cases.{next-cases, let-go-cases, apply-cases}
use Rattle.rules.proofs.Range.Olders as Olders
use Rattle.rules.proofs.Range.Olders.{Olds, olds, brought-alone}
use Rattle.rules.proofs.Range.Judged.{Judged, row-1, row-6, row-2, row-3, row-4, no_row, judged}
use Rattle.rules.proofs.Registers.Pending as Pending
use Rattle.rules.proofs.Registers.Pending.{Pends, pends, fresh-pends, word-pends, pointing-pends, written-pends, converted-pends}
use Rattle.rules.proofs.Registers.SensorKept.{fresh_kept, written-kept, converted-kept, word_kept, pointing-kept}

-- the test as facts about the numbers
pub record Ranges (kind length left half counter place : ℕ) (x : sensor.Sensor) (protection : List Bool) (permanent : Bool) : Type 0 where
  pub kinds : kind ≤ 3
  pub lengths : cond (eqb kind 0) (eqb length 0) (good_length length) ≡ true
  pub lefts : left ≤ length
  pub halves : half ≤ 1
  pub counters : counter ≤ 255
  pub places : place ≤ 15
  pub sensors : sensor_in_range x ≡ true
  pub pins : Pends kind x
  pub olders : Olds kind half protection permanent

abbrev pub InRange : Slot → Type 0
InRange s = Ranges s.kind s.length s.left s.half s.counter s.place s.sensor s.protection s.old.permanent

-- nine tests joined
module _ (a b c d e f g h i : Bool) where
  joined : a ≡ true → b ≡ true → c ≡ true → d ≡ true → e ≡ true → f ≡ true → g ≡ true → h ≡ true → i ≡ true → (a && b && c && d && e && f && g && h && i) ≡ true
  joined ha hb hc hd he hf hg hh hi = rw (ha, hb, hc, hd, he, hf, hg, hh, hi)

pub facts : (s : Slot) → slot_in_range s ≡ true → InRange s
unfolding slot_in_range kind_in_range length_in_range
facts s t =
    let k : Bool = leb s.kind 3 in
    let l : Bool = cond (eqb s.kind 0) (eqb s.length 0) (good_length s.length) in
    let f : Bool = leb s.left s.length in
    let h : Bool = leb s.half 1 in
    let c : Bool = leb s.counter 255 in
    let p : Bool = leb s.place 15 in
    let x : Bool = sensor_in_range s.sensor in
    let q : Bool = pending_in_range s in
    let o : Bool = older_in_range s in
    let t₈ = and_left (k && l && f && h && c && p && x && q) o t in
    let t₇ = and_left (k && l && f && h && c && p && x) q t₈ in
    let t₆ = and_left (k && l && f && h && c && p) x t₇ in
    let t₅ = and_left (k && l && f && h && c) p t₆ in
    let t₄ = and_left (k && l && f && h) c t₅ in
    let t₃ = and_left (k && l && f) h t₄ in
    let t₂ = and_left (k && l) f t₃ in
    record {
      kinds = leb-true _ _ (and_left k l t₂);
      lengths = and_right k l t₂;
      lefts = leb-true _ _ (and_right (k && l) f t₃);
      halves = leb-true _ _ (and_right (k && l && f) h t₄);
      counters = leb-true _ _ (and_right (k && l && f && h) c t₅);
      places = leb-true _ _ (and_right (k && l && f && h && c) p t₆);
      sensors = and_right (k && l && f && h && c && p) x t₇;
      pins = pends s (and_right (k && l && f && h && c && p && x) q t₈);
      olders = olds s (and_right (k && l && f && h && c && p && x && q) o t);
    }

pub test : (s : Slot) → InRange s → slot_in_range s ≡ true
unfolding slot_in_range kind_in_range length_in_range
test s v =
    joined _ _ _ _ _ _ _ _ _
    (le-leb _ _ v.kinds) v.lengths (le-leb _ _ v.lefts) (le-leb _ _ v.halves) (le-leb _ _ v.counters) (le-leb _ _ v.places) v.sensors
    (Pending.in-range s v.pins) (Olders.in-range s v.olders)

-- one field replaced: what moves no number of row 6 is kept as it stands
counter-kept : (n : ℕ) (s : Slot) → n ≤ 255 → InRange s → InRange (Fields.at_counter n s)
unfolding open-fields
counter-kept n s h v = search

half-kept : (n : ℕ) (s : Slot) → n ≤ 1 → older s ≡ false → InRange s → InRange (Fields.in_half n s)
unfolding open-fields older
half-kept n s h o v = record { kinds = v.kinds; lengths = v.lengths; lefts = v.lefts; halves = h; counters = v.counters; places = v.places; sensors = v.sensors; pins = v.pins; olders = λ e. absurd (false≢true (sym o ∙ e)) }

left-kept : (n : ℕ) (s : Slot) → n ≤ s.length → InRange s → InRange (Fields.with_left n s)
unfolding open-fields
left-kept n s h v = search

place_kept : (n : ℕ) (s : Slot) → n ≤ 15 → InRange s → InRange (Fields.placed n s)
unfolding open-fields
place_kept n s h v = search

sensor-kept : (x : sensor.Sensor) (s : Slot) → sensor_in_range x ≡ true → Pends s.kind x → InRange s → InRange (Fields.with_sensor x s)
unfolding open-fields
sensor-kept x s h p v = search

phase-kept : (p : Phase) (s : Slot) → InRange s → InRange (in_phase p s)
unfolding open-fields
phase-kept p s v = v

emptied-kept : (s : Slot) → InRange s → InRange (emptied s)
unfolding emptied open-fields
emptied-kept s v = v

abandoned-kept : (s : Slot) → InRange s → InRange (abandoned s)
unfolding abandoned
abandoned-kept s v = place_kept 0 _ (omega arith) (emptied-kept s v)

cancelled-kept : (s : Slot) → InRange s → InRange (cancelled s)
unfolding cancelled open-fields
cancelled-kept s v = v

holding-kept : (w : ℕ) (s : Slot) → InRange s → InRange (Fields.holding w s)
unfolding Fields.holding
holding-kept w s v = sensor-kept _ s (word_kept w s.sensor v.sensors) (word-pends s.kind w s.sensor v.pins) v

let_go-kept : (p : Phase) (s : Slot) → InRange s → InRange (let_go p s)
let_go-kept p s v = let-go-cases InRange p s (holding-kept 0x0000 s v) (cancelled-kept s v) (abandoned-kept s v) v

lost-kept : (p : Phase) (s : Slot) → InRange s → InRange (lost p s)
unfolding lost
lost-kept p s v = phase-kept Deaf _ (let_go-kept p s v)

-- the control byte: a half that is selected is 0 or 1, and none is of an older module (the first argument)
half_in : Bool → Heard → Bool
half_in o (Memory k r) = true
half_in o (Sensor k r) = true
half_in o (Protect k) = true
half_in o ClearAll = true
half_in o (ReadProtection k) = true
half_in o (SelectHalf h) = not o && leb h 1
half_in o ReadHalf = true
half_in o ProtectForEver = true
half_in o Nothing = true

halves_of : (o : Bool) (b : ℕ) → (eqb (b / 16) 0x6 ≡ true → o ≡ false) → half_in o (heard_of b) ≡ true
unfolding half_in heard_of command_of
halves_of o b f =
    cond_cases P (eqb (b / 16) 0xA) (λ e. refl) λ e.
    cond_cases P (eqb (b / 16) 0x3) (λ e. refl) λ e.
    cond_cases P (eqb (b / 16) 0x6) (λ g.
    cond_cases P (eqb b 0x62) (λ e. refl) λ e.
    cond_cases P (eqb b 0x68) (λ e. refl) λ e.
    cond_cases P (eqb b 0x6A) (λ e. refl) λ e.
    cond_cases P (eqb b 0x60) (λ e. refl) λ e.
    cond_cases P (eqb b 0x66) (λ e. refl) λ e.
    cond_cases P (eqb b 0x63) (λ e. refl) λ e.
    cond_cases P (eqb b 0x69) (λ e. refl) λ e.
    cond_cases P (eqb b 0x6B) (λ e. refl) λ e.
    cond_cases P (eqb b 0x61) (λ e. refl) λ e.
    cond_cases P (eqb b 0x6C) (λ e. rw (f g)) λ e.
    cond_cases P (eqb b 0x6E) (λ e. rw (f g)) λ e.
    cond_cases P (eqb b 0x6D) (λ e. refl) λ e.
    refl)
    (λ e. refl)
  where
    P : Heard → Type 0
    P h = half_in o h ≡ true

halves-heard : (n b : ℕ) (s : Slot) → half_in (older s) (heard_by n b s) ≡ true
unfolding half_in heard_by older_command raised_command own_command
halves-heard n b s =
    cond_cases P (older s && eqb (b / 16) 0x6)
    (λ e. cond_cases P s.old.permanent (λ e. refl) λ e. cond_cases P s.voltage
    (λ e. cond_cases P (eqb b 0x62) (λ e. refl) λ e. cond_cases P (eqb b 0x66) (λ e. refl) λ e. cond_cases P (eqb b 0x63 || eqb b 0x67) (λ e. refl) (λ e. refl))
    (λ e. cond_cases P (eqb (select_of b).0 n) (λ e. cond_cases P (is_read b) (λ e. refl) (λ e. refl)) (λ e. refl)))
    (λ e. halves_of (older s) b (λ g. by-test (older s) (λ o. absurd (false≢true (sym e ∙ both (older s) _ o g))) (λ o. o)))
  where
    P : Heard → Type 0
    P h = half_in (older s) h ≡ true

obeyed-kept : (h : Heard) (s : Slot) → half_in (older s) h ≡ true → InRange s → InRange (obeyed h s)
unfolding obeyed half_in open-fields
obeyed-kept (Memory k false) s e v = v
obeyed-kept (Memory k true) s e v = v
obeyed-kept (Sensor k false) s e v = v
obeyed-kept (Sensor k true) s e v = holding-kept _ s v
obeyed-kept (Protect k) s e v = v
obeyed-kept ClearAll s e v = v
obeyed-kept (ReadProtection k) s e v = v
obeyed-kept (SelectHalf h) s e v = half-kept h s (leb-true _ _ (and_right (not (older s)) (leb h 1) e)) (not-true (older s) (and_left (not (older s)) (leb h 1) e)) v
obeyed-kept ReadHalf s e v = v
obeyed-kept ProtectForEver s e v = v
obeyed-kept Nothing s e v = v

controlled-kept : (n b : ℕ) (s : Slot) → InRange s → InRange (controlled n b s)
unfolding controlled
controlled-kept n b s v =
    cond_cases InRange (acks_control n b s) (λ e. obeyed-kept (heard_by n b s) s (halves-heard n b s) v) (λ e. phase-kept Deaf s v)

-- bytes
loaded-kept : (b : ℕ) (s : Slot) → b ≤ 255 → InRange s → InRange (loaded b s)
unfolding loaded
loaded-kept b s h v = phase-kept MemoryData _ (place_kept _ _ (omega arith) (counter-kept b s h v))

latched-kept : (l : List ℕ) (m : List Bool) (s : Slot) → InRange s → InRange (Fields.latched l m s)
unfolding open-fields
latched-kept l m s v = v

latching-kept : (b : ℕ) (s : Slot) → InRange s → InRange (latching b s)
unfolding latching up_in_page
latching-kept b s v = counter-kept _ _ (omega (arith, v.counters)) (place_kept _ _ (omega arith) (latched-kept _ _ s v))

data-kept : (b : ℕ) (s : Slot) → InRange s → InRange (data_byte b s)
unfolding data_byte
data-kept b s v = cond_cases InRange (guarded s) (λ e. phase-kept Deaf _ (abandoned-kept s v)) (λ e. latching-kept b s v)

pointer-kept : (b : ℕ) (s : Slot) → InRange s → InRange (pointer b s)
unfolding pointer
pointer-kept b s v =
    cond_cases InRange (leb b 0x09) (λ e. phase-kept SensorHigh _ (sensor-kept _ s (pointing-kept b s.sensor e v.sensors) (pointing-pends s.kind b s.sensor v.pins) v)) (λ e. lost-kept SensorPointer s v)

second-kept : (b : ℕ) (s : Slot) → InRange s → InRange (second_byte b s)
unfolding second_byte
second-kept b s v = lost-kept SensorLow _ (sensor-kept _ s (written-kept s.sensor _ _ v.sensors) (written-pends s.kind s.sensor _ _ v.pins) v)

byte-kept : (p : Phase) (n b : ℕ) (s : Slot) → b ≤ 255 → InRange s → InRange (byte_in p n b s)
unfolding byte_in first_byte
byte-kept Idle n b s h v = v
byte-kept Control n b s h v = controlled-kept n b s v
byte-kept Deaf n b s h v = v
byte-kept MemoryCounter n b s h v = loaded-kept b s h v
byte-kept MemoryData n b s h v = data-kept b s v
byte-kept MemoryRead n b s h v = lost-kept MemoryRead s v
byte-kept HalfSelected n b s h v = v
byte-kept CommandAddress n b s h v = phase-kept CommandData s v
byte-kept CommandData n b s h v = phase-kept CommandStop s v
byte-kept CommandStop n b s h v = lost-kept CommandStop s v
byte-kept SensorPointer n b s h v = pointer-kept b s v
byte-kept SensorHigh n b s h v = phase-kept SensorLow _ (holding-kept _ s v)
byte-kept SensorLow n b s h v = second-kept b s v
byte-kept SensorReadHigh n b s h v = lost-kept SensorReadHigh s v
byte-kept SensorReadLow n b s h v = lost-kept SensorReadLow s v

fetched-kept : (more : Bool) (s : Slot) → InRange s → InRange (fetched more s)
unfolding fetched
fetched-kept more s v = phase-kept _ _ (counter-kept _ s (omega arith) v)

read_kept : (p : Phase) (more : Bool) (s : Slot) → InRange s → InRange (read_in p more s)
unfolding read_in
read_kept Idle more s v = v
read_kept Control more s v = phase-kept Deaf s v
read_kept Deaf more s v = v
read_kept MemoryCounter more s v = lost-kept MemoryCounter s v
read_kept MemoryData more s v = lost-kept MemoryData s v
read_kept MemoryRead more s v = fetched-kept more s v
read_kept HalfSelected more s v = lost-kept HalfSelected s v
read_kept CommandAddress more s v = lost-kept CommandAddress s v
read_kept CommandData more s v = lost-kept CommandData s v
read_kept CommandStop more s v = lost-kept CommandStop s v
read_kept SensorPointer more s v = lost-kept SensorPointer s v
read_kept SensorHigh more s v = lost-kept SensorHigh s v
read_kept SensorLow more s v = lost-kept SensorLow s v
read_kept SensorReadHigh more s v = cond_cases InRange more (λ e. phase-kept SensorReadLow s v) (λ e. lost-kept SensorReadHigh s v)
read_kept SensorReadLow more s v = lost-kept SensorReadLow s v

begun_kept : (s : Slot) → InRange s → InRange (begun s)
unfolding begun open-fields
begun_kept s v = left-kept s.length (Fields.placed 0 s) (omega arith) (place_kept 0 s (omega arith) v)

stop-kept : (p : Phase) (s : Slot) → InRange s → InRange (stop_in p s)
unfolding stop_in data_stop command_stop
stop-kept Idle s v = v
stop-kept Control s v = v
stop-kept Deaf s v = v
stop-kept MemoryCounter s v = v
stop-kept MemoryData s v = cond_cases InRange (any_mark s.marks) (λ e. begun_kept _ (cancelled-kept s v)) (λ e. abandoned-kept s v)
stop-kept MemoryRead s v = v
stop-kept HalfSelected s v = v
stop-kept CommandAddress s v = cancelled-kept s v
stop-kept CommandData s v = cancelled-kept s v
stop-kept CommandStop s v = cond_cases InRange (pin_on s) (λ e. cancelled-kept s v) (λ e. begun_kept s v)
stop-kept SensorPointer s v = let_go-kept SensorPointer s v
stop-kept SensorHigh s v = let_go-kept SensorHigh s v
stop-kept SensorLow s v = let_go-kept SensorLow s v
stop-kept SensorReadHigh s v = let_go-kept SensorReadHigh s v
stop-kept SensorReadLow s v = let_go-kept SensorReadLow s v

ended-kept : (s : Slot) → InRange s → InRange (ended s)
unfolding ended emptied open-fields
ended-kept s v = record { kinds = v.kinds; lengths = v.lengths; lefts = omega arith; halves = v.halves; counters = v.counters; places = v.places; sensors = v.sensors; pins = v.pins; olders = brought-alone s v.olders }

ticked-kept : (s : Slot) → InRange s → InRange (ticked s)
unfolding ticked
ticked-kept s v = cond_cases InRange (eqb s.left 1) (λ e. ended-kept s v) (λ e. left-kept (s.left - 1) s (omega (arith, v.lefts)) v)

voltage-kept : (on : Bool) (s : Slot) → InRange s → InRange (Fields.with_voltage on s)
unfolding open-fields
voltage-kept on s v = v

-- a temperature reaches a slot with a sensor alone
heated-kept : (t : ℤ) (s : Slot) → sensing s ≡ true → InRange s → InRange (Fields.with_sensor (converted_with_pin s.sensor t) s)
unfolding sensing
heated-kept t s e v = sensor-kept _ s (converted-kept s.sensor t v.sensors) (converted-pends s.kind s.sensor t e v.pins) v

-- the pin is no number of row 6
pin-kept : (on : Bool) (s : Slot) → InRange s → InRange (Fields.with_old (Fields.with_pin on s.old) s)
unfolding open-fields
pin-kept on s v = v

powered-kept : (s : Slot) → InRange s → InRange (powered s)
unfolding powered fresh_slot open-fields
powered-kept s v = record { kinds = v.kinds; lengths = v.lengths; lefts = omega arith; halves = omega arith; counters = omega arith; places = omega arith; sensors = fresh_kept; pins = fresh-pends s.kind; olders = λ e. let a = v.olders e in record { first-half = refl; no_one = a.no_one; no-two = a.no-two; no-three = a.no-three; set_if = a.set_if } }

power-kept : (k : Cut) (s : Slot) → InRange s → InRange (power_cut k s)
unfolding power_cut
power-kept k s v = powered-kept _ (cond_cases InRange (finished k s) (λ e. ended-kept s v) (λ e. v))

-- an act whose byte is a byte keeps a slot in range
unfoldable pub byte_fits : Carried → Bool
byte_fits (carries.Byte b) = leb b 255
byte_fits (carries.Read more) = true
byte_fits carries.Nothing = true

present-kept : (n : ℕ) (a : Act) (s : Slot) → byte_fits (carried a) ≡ true → InRange s → InRange (present_next n a s)
unfolding present_next byte_fits
present-kept n Start s f v = phase-kept Control _ (let_go-kept (standing s) s v)
present-kept n (Byte b) s f v = byte-kept (standing s) n b s (leb-true _ _ f) v
present-kept n (Read more) s f v = read_kept (standing s) more s v
present-kept n Stop s f v = phase-kept Idle _ (stop-kept (standing s) s v)
present-kept n Timeout s f v = phase-kept Idle _ (let_go-kept (standing s) s v)
present-kept n Tick s f v = ticked-kept s v
present-kept n (Power k) s f v = power-kept k s v
present-kept n (Apply k x) s f v =
    apply-cases InRange s n k x v (λ on. voltage-kept on s v) (λ on e. voltage-kept on _ (lost-kept (standing s) s v)) (λ t e. heated-kept t s e v) (λ on e. pin-kept on s v)

pub slot_kept : (n : ℕ) (a : Act) (s : Slot) → byte_fits (carried a) ≡ true → InRange s → InRange (slot_next n a s)
slot_kept n a s f v = next-cases InRange n a s (λ e. v) (λ e. present-kept n a s f v)

-- the bus
pub bus-kept : (a : Act) (b : Bus) → byte_fits (carried a) ≡ true → in_range b ≡ true → in_range (bus_next a b) ≡ true
unfolding in_range bus_next
bus-kept a b f v =
    list_all-map_from slot_in_range (λ n s. slot_next n a s) (λ n s t. test (slot_next n a s) (slot_kept n a s f (facts s t))) 0 b.slots v

-- an event that is taken has a byte for a byte
fits-in-byte : (v : ℤ) → outside (pos 0) (pos 255) v ≡ false → leb (nat_abs v) 255 ≡ true
unfolding outside
fits-in-byte (pos n) e = le-leb n 255 (ltb-false 255 n (or_right_false (ltb n 0) (ltb 255 n) e))
fits-in-byte (negsuc n) e = absurd (false≢true (sym e))

act-fits : (e : Event) → wrong_value e ≡ false → byte_fits (carried (act_of e)) ≡ true
unfolding act_of byte_fits wrong_value
act-fits e w =
    cond_cases P (eqb e.kind 1) (λ h. refl) λ h.
    cond_cases P (eqb e.kind 2) (λ h. fits-in-byte e.value (rw h at w)) λ h.
    cond_cases P (eqb e.kind 3) (λ h. refl) λ h.
    cond_cases P (eqb e.kind 4) (λ h. refl) λ h.
    cond_cases P (eqb e.kind 5) (λ h. refl) λ h.
    cond_cases P (eqb e.kind 6) (λ h. refl) λ h.
    cond_cases P (eqb e.kind 7) (λ h. refl) λ h.
    cond_cases P (eqb e.kind 8) (λ h. refl) λ h.
    cond_cases P (eqb e.kind 9) (λ h. refl) λ h. refl
  where
    P : Act → Type 0
    P a = byte_fits (carried a) ≡ true

fitting : Ruling → Type 0
fitting (Ok a) = byte_fits (carried a) ≡ true
fitting (Err r) = Unit {0}

judged-fits : (b : Bus) (m : List ℕ) (e : Event) (r : Ruling) → Judged b m e r → fitting r
unfolding fitting
judged-fits b m e (Err r) (row-1 n h) = tt
judged-fits b m e (Err r) (row-6 n h i) = tt
judged-fits b m e (Err r) (row-2 n h i j) = tt
judged-fits b m e (Err r) (row-3 n h i j k) = tt
judged-fits b m e (Err r) (row-4 n h i j k l) = tt
judged-fits b m e (Ok a) (no_row h i j k l) = act-fits e l

ruled-kept : (r : Ruling) (x : Bench) → fitting r → in_range x.bus ≡ true → in_range (ruled_next r x).bus ≡ true
unfolding ruled_next taken fitting
ruled-kept (Ok a) x f v = bus-kept a x.bus f v
ruled-kept (Err r) x f v = v

-- every event keeps the range
pub next-in-range : (e : Event) (x : Bench) → in_range x.bus ≡ true → in_range (next e x).bus ≡ true
unfolding next ruling_on
next-in-range e x v = ruled-kept (ruling_on e x) x (judged-fits x.bus x.memory e _ (judged x.bus x.memory e)) v

pub after-in-range : (es : List Event) (x : Bench) → in_range x.bus ≡ true → in_range (after es x).bus ≡ true
unfolding after
after-in-range [] x v = v
after-in-range (e ∷ es) x v = after-in-range es (next e x) (next-in-range e x v)

-- setup's bus is in range, refused or not
pair-in-range : (p : Pair) → good_pair p ≡ true → InRange (setup_slot p)
unfolding good_pair setup_slot fresh_slot fresh_older
pair-in-range p g =
    record {
      kinds = leb-true _ _ (and_left (leb p.kind 3) (eqb p.kind 0 || good_length p.length) g);
      lengths = by-test (eqb p.kind 0) (λ e. rw e) (λ e. rw e (rw e at (and_right (leb p.kind 3) (eqb p.kind 0 || good_length p.length) g)));
      lefts = omega arith;
      halves = omega arith;
      counters = omega arith;
      places = omega arith;
      sensors = fresh_kept;
      pins = fresh-pends p.kind;
      olders = λ e. record { first-half = refl; no_one = refl; no-two = refl; no-three = refl; set_if = λ l. absurd (false≢true l) };
    }

pairs-in-range : (ps : List Pair) → list_all good_pair ps ≡ true → list_all slot_in_range (map setup_slot ps) ≡ true
pairs-in-range [] g = refl
pairs-in-range (p ∷ ps) g =
    both _ _ (test (setup_slot p) (pair-in-range p (and_left (good_pair p) (list_all good_pair ps) g))) (pairs-in-range ps (and_right (good_pair p) (list_all good_pair ps) g))

pub setup-in-range : (ps : List Pair) → in_range (setup_of ps).bus ≡ true
unfolding setup_of in_range
setup-in-range ps =
    cond_cases (λ (o : Outcome). list_all slot_in_range o.bus.slots ≡ true) (list_all good_pair ps) (λ e. pairs-in-range ps e) (λ e. unfold open-all in refl)

-- refusal 6 is for a state out of range alone
pub is_six : Answer → Bool
is_six answer.Nothing = false
is_six answer.Ack = false
is_six answer.Nack = false
is_six (answer.Data b) = false
is_six (answer.Refused r) = eqb (refusal_number r) 6

not_six : Ruling → Type 0
not_six (Ok a) = Unit {0}
not_six (Err r) = eqb (refusal_number r) 6 ≡ false

judged-not-six : (b : Bus) (m : List ℕ) (e : Event) (r : Ruling) → in_range b ≡ true → Judged b m e r → not_six r
unfolding not_six refusal_number
judged-not-six b m e (Err r) v (row-1 n h) = ap (λ (k : ℕ). eqb k 6) n
judged-not-six b m e (Err r) v (row-6 n h i) = absurd (false≢true (sym i ∙ v))
judged-not-six b m e (Err r) v (row-2 n h i j) = ap (λ (k : ℕ). eqb k 6) n
judged-not-six b m e (Err r) v (row-3 n h i j k) = ap (λ (k : ℕ). eqb k 6) n
judged-not-six b m e (Err r) v (row-4 n h i j k l) = ap (λ (k : ℕ). eqb k 6) n
judged-not-six b m e (Ok a) v (no_row h i j k l) = tt

shown-not-six : (c : Carried) (b : Bus) (m : List ℕ) → is_six (shown_for c b m) ≡ false
unfolding shown_for is_six
shown-not-six (carries.Byte v) b m = cond_cases (λ (r : Answer). is_six r ≡ false) (any_ack v b) (λ e. refl) (λ e. refl)
shown-not-six (carries.Read more) b m = refl
shown-not-six carries.Nothing b m = refl

ruled-not-six : (r : Ruling) (x : Bench) → not_six r → is_six (ruled_answer r x) ≡ false
unfolding ruled_answer given shown not_six is_six
ruled-not-six (Ok a) x h = shown-not-six (carried a) x.bus x.memory
ruled-not-six (Err r) x h = h

pub answered-not-six : (e : Event) (x : Bench) → in_range x.bus ≡ true → is_six (answered e x) ≡ false
unfolding answered ruling_on
answered-not-six e x v = ruled-not-six (ruling_on e x) x (judged-not-six x.bus x.memory e _ v (judged x.bus x.memory e))

-- no run from a state in range, so none from setup, gets refusal 6
pub never-six : (es : List Event) (x : Bench) → in_range x.bus ≡ true → list_all (λ a. not (is_six a)) (answers es x) ≡ true
unfolding answers
never-six [] x v = refl
never-six (e ∷ es) x v = rw (answered-not-six e x v) (never-six es (next e x) (next-in-range e x v))

pub never-six-from-setup : (ps : List Pair) (m : List ℕ) (es : List Event)
    → list_all (λ a. not (is_six a)) (answers es (record { bus = (setup_of ps).bus; memory = m })) ≡ true
never-six-from-setup ps m es = never-six es _ (setup-in-range ps)
