-- Row 6 for the sensor: one whose numbers are in range stays so. The test is taken apart into named facts; a change keeps all of them, and masks what it puts in.
-- Assumes nothing.
use mathlib.Core.Path.{◌≡◌, refl}
use mathlib.Core.Bool.{Bool, true}
use Prim.Native.Nat.{ℕ}
use borrow.Author.Tests.{eq-eqb}
use lib.Bits.{bit_and}
use lib.Dec.{leb}
use lib.IntN.{ℤ}
use Rattle.proof_lists.specs.Tests.{cond_cases, and_left, and_right}
use Rattle.rules.specs.declared.Act.{Act}
use Rattle.rules.specs.declared.Sensor.{Sensor}
use Rattle.rules.specs.declared.Slot.{Slot}
use Rattle.rules.specs.Fields.{with_word, pointing, with_pending}
use Rattle.rules.specs.Fresh.{fresh_sensor}
use Rattle.rules.specs.Open.{open-fields}
use Rattle.rules.specs.Pin.{written_with_pin, converted_with_pin}
use Rattle.rules.specs.Refusals.{kept_in, sensor_in_range}
use Rattle.rules.specs.Sensor.{configuration_bits, limit_bits, resolution_bits, timeout_bits, configured, written, shut_down, converted}
use Rattle.rules.specs.Slot.{slot_next}
use Rattle.rules.proofs.Registers.Masks.{within}
use Rattle.rules.proofs.Registers.Locks.{locked, locked-within}
use Rattle.rules.proofs.Registers.SensorSteps.{written-cases, wrote, sensed, Respected, step-respects}

-- the seven tests by name
record InRange (x : Sensor) : Type 0 where
  pointer : leb x.pointer 0x09 ≡ true
  configuration : kept_in configuration_bits x.configuration ≡ true
  high : kept_in limit_bits x.high ≡ true
  low : kept_in limit_bits x.low ≡ true
  critical : kept_in limit_bits x.critical ≡ true
  resolution : kept_in resolution_bits x.resolution ≡ true
  timeout : kept_in timeout_bits x.timeout ≡ true

parts : {x : Sensor} → sensor_in_range x ≡ true → InRange x
unfolding sensor_in_range
parts h = search (and_left, and_right) depth 9

whole : {x : Sensor} → InRange x → sensor_in_range x ≡ true
unfolding sensor_in_range
whole r = simp (r.pointer, r.configuration, r.high, r.low, r.critical, r.resolution, r.timeout)

-- what a write puts in has no bit outside the mask
masked : (m v : ℕ) → kept_in m (bit_and v m) ≡ true
unfolding kept_in
masked m v = eq-eqb _ _ (within v m)

configured-kept : (old v : ℕ) → kept_in configuration_bits (configured old v) ≡ true
unfolding configured kept_in
configured-kept old v =
    cond_cases (λ (c : ℕ). kept_in configuration_bits c ≡ true) (locked old)
    (λ e. eq-eqb _ _ (locked-within old v))
    (λ e. masked configuration_bits v)

pub fresh_kept : sensor_in_range fresh_sensor ≡ true
unfolding sensor_in_range kept_in fresh_sensor
fresh_kept = refl

pub word_kept : (v : ℕ) (x : Sensor) → sensor_in_range x ≡ true → sensor_in_range (with_word v x) ≡ true
unfolding sensor_in_range with_word
word_kept v x h = h

pub pointing-kept : (b : ℕ) (x : Sensor) → leb b 9 ≡ true → sensor_in_range x ≡ true → sensor_in_range (pointing b x) ≡ true
unfolding pointing
pointing-kept b x l h = let r = parts h in whole (search)

-- what is pending is no number of the sensor's own
abbrev Kept : Sensor → Sensor → Type 0
Kept x y = sensor_in_range x ≡ true → sensor_in_range y ≡ true

after : (x y z : Sensor) → Kept x y → Kept y z → Kept x z
after x y z f g h = g (f h)

pin-kept : (on : Bool) (x : Sensor) → Kept x (with_pending on x)
unfolding sensor_in_range with_pending
pin-kept on x h = h

registers-kept : (x : Sensor) (p v : ℕ) → Kept x (written x p v)
unfolding open-fields
registers-kept x p v h =
    let r = parts h in
    whole
    (written-cases InRange x p v r (search configured-kept) (λ e. search masked) (λ e. search masked) (λ e. search masked) (search masked) (search masked))

pub written-kept : (x : Sensor) (p v : ℕ) → Kept x (written_with_pin x p v)
written-kept x p v = wrote Kept after pin-kept x p v (registers-kept x p v)

temperature-kept : (x : Sensor) (t : ℤ) → Kept x (converted x t)
unfolding converted sensor_in_range open-fields
temperature-kept x t h = cond_cases (λ (y : Sensor). sensor_in_range y ≡ true) (shut_down x) (λ e. h) (λ e. h)

pub converted-kept : (x : Sensor) (t : ℤ) → Kept x (converted_with_pin x t)
converted-kept x t = sensed Kept after pin-kept x t (temperature-kept x t)

every : Respected Kept
every =
    record {
      same = λ x h. h;
      joined = after;
      worded = word_kept;
      pointed = pointing-kept;
      writes = written-kept;
    }

-- the sensor of a slot, at every event
pub step_kept : (n : ℕ) (a : Act) (s : Slot) → sensor_in_range s.sensor ≡ true → sensor_in_range (slot_next n a s).sensor ≡ true
step_kept n a s = step-respects Kept every n a s (λ e h. fresh_kept) (λ t e. converted-kept s.sensor t)
