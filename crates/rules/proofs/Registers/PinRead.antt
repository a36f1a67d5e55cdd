-- Bits 4 and 5 of register 01h, as they are read: bit 4 over the bus is the pin as it stood at the control byte, whatever temperatures come between the
-- reads of the two bytes.
-- Assumes nothing.
use Prim.Native.Nat.{ℕ, ◌/◌, ◌%◌, ◌^◌}
use native.Mathlib.Omega.{arith}
use mathlib.Core.Path.{◌≡◌, refl, ◌∙◌, ap}
use mathlib.Core.Bool.{true, cond, and-false}
use mathlib.Core.List.{List, [], ◌∷◌}
use borrow.Author.Tests.{eqb-true}
use lib.Bits.{bit_and}
use lib.Dec.{eqb}
use lib.IntN.{ℤ}
use Rattle.proof_lists.specs.Tests.{cond_cases, by-test, and_right}
use Rattle.rules.specs.declared.Act.TheVariants.{Byte, Read, Apply}
use Rattle.rules.specs.declared.Applied.TheVariants.{Temperature}
use Rattle.rules.specs.declared.Heard.TheVariants as heard
use Rattle.rules.specs.declared.Phase.{Phase}
use Rattle.rules.specs.declared.Phase.TheVariants.{Control, SensorReadHigh, SensorReadLow}
use Rattle.rules.specs.declared.Sensor.{Sensor}
use Rattle.rules.specs.declared.Slot.{Slot}
use Rattle.rules.specs.declared.SlotNo.{SlotNo}
use Rattle.rules.specs.Control.{acks_heard, acks_control, obeyed, controlled, heard_by}
use Rattle.rules.specs.Modelled.{sensing}
use Rattle.rules.specs.Open.{open-fields}
use Rattle.rules.specs.Pin.{asserted, read_of}
use Rattle.rules.specs.Refusals.{kept_in}
use Rattle.rules.specs.Sensor.{configuration_bits, register_of}
use Rattle.rules.specs.Slot.{with_sensor_in, standing, byte_in, acks_in, read_in, driven_in, present_next, slot_next, acks, driven, applied}
use Rattle.rules.proofs.Registers.Masks.{and-bit, or-bit}
use Rattle.rules.proofs.Registers.Words.{word-fixed}
use Rattle.rules.proofs.Run.Cases.{next-cases, heated-cases, sensing-present, byte_next, read_next}

-- a configuration that has no bit but the kept ones has neither bit 4 nor bit 5
bit-clear : (k c : ℕ) → configuration_bits / 2 ^ k % 2 ≡ 0 → kept_in configuration_bits c ≡ true → c / 2 ^ k % 2 ≡ 0
unfolding kept_in
bit-clear k c none h =
    let e : bit_and c configuration_bits ≡ c = eqb-true _ _ h in
    let g = rw (and-bit k c configuration_bits, none) at (ap (λ (n : ℕ). n / 2 ^ k % 2) e) in
    omega (arith, g)

module _ (x : Sensor) (h : kept_in configuration_bits x.configuration ≡ true) where
  pub bit-4 : read_of x 0x01 / 16 % 2 ≡ cond (asserted x) 1 0
  unfolding read_of register_of
  bit-4 =
      let c = x.configuration in
      by-test (asserted x)
      (λ e. rw e (let g = or-bit 4 c 0x0010 in omega (arith, g, bit-clear 4 c refl h)))
      (λ e. rw e (bit-clear 4 c refl h))

  pub bit-5 : read_of x 0x01 / 32 % 2 ≡ 0
  unfolding read_of register_of
  bit-5 =
      let c = x.configuration in
      by-test (asserted x)
      (λ e. rw e (let g = or-bit 5 c 0x0010 in omega (arith, g, bit-clear 5 c refl h)))
      (λ e. rw e (bit-clear 5 c refl h))

-- a slot that drives a byte of the word w
record Drives (p : Phase) (w : ℕ) (s : Slot) : Type 0 where
  phase : s.phase ≡ p
  sensed : sensing s ≡ true
  word : s.sensor.word ≡ w

-- temperatures, of whatever slots, one after another
unfoldable pub heated_by : ℕ → List (SlotNo × ℤ) → Slot → Slot
heated_by n [] s = s
heated_by n (h ∷ hs) s = heated_by n hs (slot_next n (Apply h.0 (Temperature h.1)) s)

drives-heated : (n : ℕ) (p : Phase) (w : ℕ) (hs : List (SlotNo × ℤ)) (s : Slot) → Drives p w s → Drives p w (heated_by n hs s)
unfolding heated_by present_next applied open-fields sensing
drives-heated n p w [] s d = d
drives-heated n p w (h ∷ hs) s d =
    drives-heated n p w hs (slot_next n (Apply h.0 (Temperature h.1)) s)
    (next-cases (Drives p w) n (Apply h.0 (Temperature h.1)) s (λ a. d)
    (λ a. cond_cases (Drives p w) (eqb h.0.0 n)
    (λ e. heated-cases (Drives p w) h.1 s (record { phase = d.phase; sensed = d.sensed; word = word-fixed s.sensor h.1 ∙ d.word }) d) (λ e. d)))

stands_at : (p : Phase) (w : ℕ) (s : Slot) → Drives p w s → standing s ≡ p
unfolding standing
stands_at p w s d = rw (sensing-present s d.sensed, d.sensed, and-false (with_sensor_in s.phase)) d.phase

drives-low : (n w : ℕ) (s : Slot) → Drives SensorReadHigh w s → Drives SensorReadLow w (slot_next n (Read true) s)
unfolding read_in open-fields sensing
drives-low n w s d = rw (read_next n true s, stands_at SensorReadHigh w s d) (record { phase = refl; sensed = d.sensed; word = d.word })

-- "both bytes are fixed at the control byte's ACK": the slot awaits its control byte, points to 01h, and acknowledges a read of its sensor
module _ (n b : ℕ) (k : SlotNo) (s : Slot)
    (waits : standing s ≡ Control) (asks : heard_by n b s ≡ heard.Sensor k true) (hears : acks n b s ≡ true) (points : s.sensor.pointer ≡ 0x01)
    (kept : kept_in configuration_bits s.sensor.configuration ≡ true)
  where
    has-sensor : sensing s ≡ true
    unfolding acks acks_in acks_control acks_heard
    has-sensor = and_right (eqb k.0 n) (sensing s) (rw asks at (and_right (eqb s.left 0) (acks_heard (heard_by n b s) n s) (rw waits at hears)))

    drives-high : Drives SensorReadHigh (read_of s.sensor 0x01) (slot_next n (Byte b) s)
    unfolding acks acks_in byte_in controlled obeyed open-fields sensing
    drives-high =
        let a : acks_control n b s ≡ true = rw waits at hears in
        rw (byte_next n b s, waits, a, asks, points) (record { phase = refl; sensed = has-sensor; word = refl })

    -- bit 4 of the low byte is the pin as it stood at the control byte
    pub bit-4-over-the-bus : (first then : List (SlotNo × ℤ)) (m : List ℕ)
        → driven m (heated_by n then (slot_next n (Read true) (heated_by n first (slot_next n (Byte b) s)))) / 16 % 2 ≡ cond (asserted s.sensor) 1 0
    unfolding driven driven_in
    bit-4-over-the-bus first then m =
        let w = read_of s.sensor 0x01 in
        let t = heated_by n first (slot_next n (Byte b) s) in
        let u = heated_by n then (slot_next n (Read true) t) in
        let d : Drives SensorReadLow w u = drives-heated n SensorReadLow w then _ (drives-low n w t (drives-heated n SensorReadHigh w first _ drives-high)) in
        rw (stands_at SensorReadLow w u d, d.word) (omega (arith, bit-4 s.sensor kept))
