-- Document 01, "Sensor": a flag stays between its two ends, and no temperature changes what a read drives.
-- Assumes nothing.
use Prim.Native.Nat.{ℕ, ◌/◌, ◌%◌}
use native.Mathlib.Omega.{arith}
use mathlib.Core.Path.{◌≡◌, refl, sym, ◌∙◌}
use mathlib.Core.Bool.{Bool, true, false, false≢true}
use mathlib.Core.List.{List}
use lib.Dec.{eqb}
use lib.IntN.{ℤ, pos, ◌-ℤ◌}
use lib.Signed.{lt_z, le_z}
use Rattle.proof_lists.specs.Tests.{cond_cases, by-test}
use Rattle.rules.specs.declared.Act.TheVariants.{Apply}
use Rattle.rules.specs.declared.Applied.TheVariants.{Temperature}
use Rattle.rules.specs.declared.Phase.{Phase}
use Rattle.rules.specs.declared.Phase.TheVariants.{Idle, Control, Deaf, MemoryCounter, MemoryData, MemoryRead, HalfSelected, CommandAddress, CommandData, CommandStop, SensorPointer, SensorHigh, SensorLow, SensorReadHigh, SensorReadLow}
use Rattle.rules.specs.declared.Sensor as sensor
use Rattle.rules.specs.declared.Slot.{Slot}
use Rattle.rules.specs.declared.SlotNo.{SlotNo}
use Rattle.rules.specs.Modelled.{absent, sensing, address_of}
use Rattle.rules.specs.Fields.{with_sensor}
use Rattle.rules.specs.Sensor.{signed_of, hysteresis_of, lowered_of, flag_of, critical_flag, high_flag, low_flag}
use Rattle.rules.specs.Pin.{converted_with_pin}
use Rattle.rules.specs.Slot.{standing, driven_in, present_next, slot_next, driven, applied}
use Rattle.rules.proofs.Registers.Signed.{natural, less, le-to, le_from, lt-to, lt-from, holds, fails}
use Rattle.rules.proofs.Registers.Words.{word-fixed}
use Rattle.rules.proofs.Run.Cases.{next-cases, heated-cases}

-- "both bytes are fixed at the control byte's ACK": no temperature changes what a slot drives
driven-fixed : (p : Phase) (x : sensor.Sensor) (s : Slot) (m : List ℕ) → x.word ≡ s.sensor.word → driven_in p (with_sensor x s) m ≡ driven_in p s m
unfolding driven_in with_sensor address_of
driven-fixed Idle x s m e = refl
driven-fixed Control x s m e = refl
driven-fixed Deaf x s m e = refl
driven-fixed MemoryCounter x s m e = refl
driven-fixed MemoryData x s m e = refl
driven-fixed MemoryRead x s m e = refl
driven-fixed HalfSelected x s m e = refl
driven-fixed CommandAddress x s m e = refl
driven-fixed CommandData x s m e = refl
driven-fixed CommandStop x s m e = refl
driven-fixed SensorPointer x s m e = refl
driven-fixed SensorHigh x s m e = refl
driven-fixed SensorLow x s m e = refl
driven-fixed SensorReadHigh x s m e = rw e
driven-fixed SensorReadLow x s m e = rw e

pub sensor-bytes-fixed : (n : ℕ) (k : SlotNo) (t : ℤ) (s : Slot) (m : List ℕ) → driven m (slot_next n (Apply k (Temperature t)) s) ≡ driven m s
unfolding driven present_next applied standing absent sensing with_sensor
sensor-bytes-fixed n k t s m =
    next-cases (λ (r : Slot). driven m r ≡ driven m s) n (Apply k (Temperature t)) s (λ e. refl) λ e.
    cond_cases (λ (r : Slot). driven m r ≡ driven m s) (eqb k.0 n)
    (λ e. heated-cases (λ (r : Slot). driven m r ≡ driven m s) t s (driven-fixed (standing s) (converted_with_pin s.sensor t) s m (word-fixed s.sensor t)) refl)
    (λ e. refl)

-- signed tests
below : (a b : ℤ) → lt_z a b ≡ true → le_z b a ≡ false
below a b e = fails (le_z b a) (λ h. omega (arith, lt-to a b (rw e tt), le-to b a h))

not_below : (a b : ℤ) → le_z a b ≡ true → lt_z b a ≡ false
not_below a b e = fails (lt_z b a) (λ h. omega (arith, le-to a b (rw e tt), lt-to b a h))

-- "otherwise each stays": between a limit less h and the limit a flag is what it was
stays : (set clear was : Bool) → set ≡ false → clear ≡ false → flag_of set clear was ≡ was
unfolding flag_of
stays set clear was e f = rw (e, f)

module _ (x : sensor.Sensor) (t : ℤ) where
  pub critical-stays : lt_z t (signed_of x.critical) ≡ true → le_z (lowered_of x x.critical) t ≡ true → critical_flag x t ≡ eqb (x.temperature / 32768 % 2) 1
  unfolding critical_flag
  critical-stays e f = stays _ _ _ (below t (signed_of x.critical) e) (not_below (lowered_of x x.critical) t f)

  pub high-stays : le_z t (signed_of x.high) ≡ true → lt_z (lowered_of x x.high) t ≡ true → high_flag x t ≡ eqb (x.temperature / 16384 % 2) 1
  unfolding high_flag
  high-stays e f = stays _ _ _ (not_below t (signed_of x.high) e) (below (lowered_of x x.high) t f)

  pub low-stays : lt_z t (signed_of x.low) ≡ true → le_z (lowered_of x x.low) t ≡ true → low_flag x t ≡ eqb (x.temperature / 8192 % 2) 1
  unfolding low_flag
  low-stays e f = stays _ _ _ (not_below (lowered_of x x.low) t f) (below t (signed_of x.low) e)

-- a limit less h is not above the limit
lower-below : (t c : ℤ) (h : ℕ) → lt_z t (c -ℤ pos h) ≡ true → lt_z t c ≡ true
lower-below t c h e = holds (lt_z t c) (lt-from t c (omega (arith, lt-to t (c -ℤ pos h) (rw e tt), less c (pos h), natural h)))

lower-up_to : (t c : ℤ) (h : ℕ) → le_z t (c -ℤ pos h) ≡ true → le_z t c ≡ true
lower-up_to t c h e = holds (le_z t c) (le_from t c (omega (arith, le-to t (c -ℤ pos h) (rw e tt), less c (pos h), natural h)))

-- each flag set and cleared, of every sensor
sets : (clear was : Bool) {set : Bool} → set ≡ true → flag_of set clear was ≡ true
unfolding flag_of
sets clear was e = rw e

clears : (was : Bool) {set clear : Bool} → set ≡ false → clear ≡ true → flag_of set clear was ≡ false
unfolding flag_of
clears was e f = rw (e, f)

module _ (x : sensor.Sensor) (t : ℤ) where
  -- "bit 15 is set when t >= critical and cleared when t < critical - h"
  pub critical-set : le_z (signed_of x.critical) t ≡ true → critical_flag x t ≡ true
  unfolding critical_flag
  critical-set e = sets _ _ e

  pub critical-cleared : lt_z t (lowered_of x x.critical) ≡ true → critical_flag x t ≡ false
  unfolding critical_flag lowered_of
  critical-cleared e = clears _ (below t (signed_of x.critical) (lower-below t (signed_of x.critical) (hysteresis_of x.configuration) e)) e

  -- "bit 14 is set when t > high and cleared when t <= high - h"
  pub high-set : lt_z (signed_of x.high) t ≡ true → high_flag x t ≡ true
  unfolding high_flag
  high-set e = sets _ _ e

  pub high-cleared : le_z t (lowered_of x x.high) ≡ true → high_flag x t ≡ false
  unfolding high_flag lowered_of
  high-cleared e = clears _ (not_below t (signed_of x.high) (lower-up_to t (signed_of x.high) (hysteresis_of x.configuration) e)) e

  -- "bit 13 is set when t < low - h and cleared when t >= low"
  pub low-set : lt_z t (lowered_of x x.low) ≡ true → low_flag x t ≡ true
  unfolding low_flag
  low-set e = sets _ _ e

  pub low-cleared : le_z (signed_of x.low) t ≡ true → low_flag x t ≡ false
  unfolding low_flag lowered_of
  low-cleared e = by-test (lt_z t (signed_of x.low -ℤ pos (hysteresis_of x.configuration)))
      (λ f. absurd (false≢true (sym (below t (signed_of x.low) (lower-below t (signed_of x.low) (hysteresis_of x.configuration) f)) ∙ e))) (λ f. clears _ f e)
