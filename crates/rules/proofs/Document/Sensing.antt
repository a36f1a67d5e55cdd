-- Document 01's section "Sensor" as tables: the registers, what a write keeps, locks, steps, hysteresis, two's complement, and each flag at its
-- ends. Each theorem computes.
-- Assumes nothing.
use Prim.Native.Nat.{ℕ}
use mathlib.Core.Path.{◌≡◌, refl}
use mathlib.Core.Bool.{Bool, true, false, ◌||◌}
use mathlib.Core.List.{List, [], ◌∷◌, ◌++◌, map}
use lib.Bits.{bit_and}
use lib.IntN.{ℤ, pos, negsuc, neg_ℤ}
use lib.ListN.{replicate}
use Rattle.rules.specs.declared.Sensor.{Sensor}
use Rattle.rules.specs.Open.{open-all}
use Rattle.rules.specs.Fields.{with_configuration, with_high, with_low, with_critical, with_temperature, with_resolution, with_timeout}
use Rattle.rules.specs.Sensor.{register_of, shut_down, critical_locked, limits_locked, configured, written, bits_of, signed_of, step_of, nearest_of, stepped_of, hysteresis_of, critical_flag, high_flag, low_flag, reading, converted}

-- a sensor with a value of its own in every register that can change, unlocked
abbrev full : Sensor
full = record { pointer = 0x03; configuration = 0x0203; high = 0x0110; low = 0x0220; critical = 0x0330; temperature = 0x0440; resolution = 0x02; timeout = 0x00; word = 0x5555; pending = false }

abbrev pointers : List ℕ
pointers = 0x00 ∷ 0x01 ∷ 0x02 ∷ 0x03 ∷ 0x04 ∷ 0x05 ∷ 0x06 ∷ 0x07 ∷ 0x08 ∷ 0x09 ∷ []

-- "Registers, 16 bits, high byte first"
pub registers : map (register_of full) pointers ≡ 0x00EF ∷ 0x0203 ∷ 0x0110 ∷ 0x0220 ∷ 0x0330 ∷ 0x0440 ∷ 0x104A ∷ 0x2201 ∷ 0x0002 ∷ 0x0000 ∷ []
unfolding open-all
registers = refl

-- "Kept bits: 01h 07CFh; limits 1FFCh; 08h 0003h; 09h 0001h.": FFFFh written to each; "00h, 05h, 06h, 07h [..] ignore writes"
pub writes : map (λ p. written full p 0xFFFF) pointers
    ≡ full ∷ with_configuration 0x07CF full ∷ with_high 0x1FFC full ∷ with_low 0x1FFC full ∷ with_critical 0x1FFC full ∷ full ∷ full ∷ full ∷ with_resolution 0x03 full ∷ with_timeout 0x01 full ∷ []
unfolding open-all
writes = refl

pub zeros : map (λ p. written full p 0x0000) pointers
    ≡ full ∷ with_configuration 0x0000 full ∷ with_high 0x0000 full ∷ with_low 0x0000 full ∷ with_critical 0x0000 full ∷ full ∷ full ∷ full ∷ with_resolution 0x00 full ∷ with_timeout 0x00 full ∷ []
unfolding open-all
zeros = refl

-- "7 locks register 04h; 6 locks 02h and 03h"
abbrev limits : ℕ → List Sensor
limits c = map (λ p. written (with_configuration c full) p 0x0000) (0x02 ∷ 0x03 ∷ 0x04 ∷ [])

pub critical-lock : limits 0x0080 ≡ map (with_configuration 0x0080) (with_high 0 full ∷ with_low 0 full ∷ full ∷ [])
unfolding open-all
critical-lock = refl

pub limits-lock : limits 0x0040 ≡ map (with_configuration 0x0040) (full ∷ full ∷ with_critical 0 full ∷ [])
unfolding open-all
limits-lock = refl

-- "Locks hold until power is cycled; the other may still be set. While either lock was set before a write, bits 10:9 and 3:0 keep, and bit 8 can
-- only be cleared.": the configuration before, the word written, the configuration after
abbrev configuring : ℕ × ℕ → ℕ
configuring p = configured p.0 p.1

pub configurations : map configuring
    ((0x0000, 0xFFFF) ∷ (0x07CF, 0x0000) ∷ (0x070F, 0x0000) ∷ (0x0040, 0xFFFF) ∷ (0x0080, 0xFFFF) ∷ (0x0040, 0x0080) ∷ (0x0080, 0x0040) ∷ (0x0740, 0x0100) ∷ (0x0740, 0x0000) ∷ (0x0640, 0x0100) ∷ [])
    ≡ 0x07CF ∷ 0x06CF ∷ 0x0000 ∷ 0x00C0 ∷ 0x00C0 ∷ 0x00C0 ∷ 0x00C0 ∷ 0x0740 ∷ 0x0640 ∷ 0x0640 ∷ []
unfolding open-all
configurations = refl

-- "bits 10:9 hysteresis h = 0, 24, 48, 96 sixteenths", whatever the other bits
pub hystereses : map hysteresis_of (0x0000 ∷ 0x0200 ∷ 0x0400 ∷ 0x0600 ∷ 0x01CF ∷ 0x07CF ∷ 0xF9FF ∷ 0xFBFF ∷ 0xFDFF ∷ 0xFFFF ∷ [])
    ≡ 0 ∷ 24 ∷ 48 ∷ 96 ∷ 0 ∷ 96 ∷ 0 ∷ 24 ∷ 48 ∷ 96 ∷ []
unfolding open-all
hystereses = refl

-- "Resolution 0..3 means steps of 8, 4, 2, 1 sixteenths"
pub steps : map step_of (0 ∷ 1 ∷ 2 ∷ 3 ∷ []) ≡ 8 ∷ 4 ∷ 2 ∷ 1 ∷ []
unfolding open-all
steps = refl

-- request P7, "round to the nearest step, halves upward": every rest of every step, on both sides of zero, halves among them. Each multiple is given for as many numbers
-- as a step has, the first of them half a step below it.
abbrev minus : ℕ → ℤ
minus n = neg_ℤ (pos n)

abbrev around : List ℤ
around = minus 12 ∷ minus 11 ∷ minus 10 ∷ minus 9 ∷ minus 8 ∷ minus 7 ∷ minus 6 ∷ minus 5 ∷ minus 4 ∷ minus 3 ∷ minus 2 ∷ minus 1 ∷ pos 0 ∷ pos 1 ∷ pos 2 ∷ pos 3 ∷ pos 4 ∷ pos 5 ∷ pos 6 ∷ pos 7 ∷ pos 8 ∷ pos 9 ∷ pos 10 ∷ pos 11 ∷ pos 12 ∷ []

pub roundings : map (λ step. map (nearest_of step) around) (8 ∷ 4 ∷ 2 ∷ 1 ∷ [])
    ≡ (replicate 8 (minus 8) ++ replicate 8 (pos 0) ++ replicate 8 (pos 8) ++ replicate 1 (pos 16))
    ∷ (replicate 2 (minus 12) ++ replicate 4 (minus 8) ++ replicate 4 (minus 4) ++ replicate 4 (pos 0) ++ replicate 4 (pos 4) ++ replicate 4 (pos 8) ++ replicate 3 (pos 12))
    ∷ (replicate 1 (minus 12) ++ replicate 2 (minus 10) ++ replicate 2 (minus 8) ++ replicate 2 (minus 6) ++ replicate 2 (minus 4) ++ replicate 2 (minus 2) ++ replicate 2 (pos 0) ++ replicate 2 (pos 2) ++ replicate 2 (pos 4) ++ replicate 2 (pos 6) ++ replicate 2 (pos 8) ++ replicate 2 (pos 10) ++ replicate 2 (pos 12))
    ∷ around
    ∷ []
unfolding open-all
roundings = refl

-- and at the ends of the given temperature's range
abbrev ends : List ℤ
ends = minus 640 ∷ minus 639 ∷ minus 637 ∷ minus 636 ∷ minus 635 ∷ pos 1995 ∷ pos 1996 ∷ pos 1997 ∷ pos 1999 ∷ pos 2000 ∷ []

pub range-ends : map (λ step. map (nearest_of step) ends) (8 ∷ 4 ∷ 2 ∷ 1 ∷ [])
    ≡ (minus 640 ∷ minus 640 ∷ minus 640 ∷ minus 632 ∷ minus 632 ∷ pos 1992 ∷ pos 2000 ∷ pos 2000 ∷ pos 2000 ∷ pos 2000 ∷ [])
    ∷ (minus 640 ∷ minus 640 ∷ minus 636 ∷ minus 636 ∷ minus 636 ∷ pos 1996 ∷ pos 1996 ∷ pos 1996 ∷ pos 2000 ∷ pos 2000 ∷ [])
    ∷ (minus 640 ∷ minus 638 ∷ minus 636 ∷ minus 636 ∷ minus 634 ∷ pos 1996 ∷ pos 1996 ∷ pos 1998 ∷ pos 2000 ∷ pos 2000 ∷ [])
    ∷ ends
    ∷ []
unfolding open-all
range-ends = refl

-- "Bits 12:0 hold t in two's complement; limits are read so too."
pub bits : map bits_of (pos 0 ∷ pos 1 ∷ pos 4095 ∷ negsuc 0 ∷ negsuc 4095 ∷ []) ≡ 0x0000 ∷ 0x0001 ∷ 0x0FFF ∷ 0x1FFF ∷ 0x1000 ∷ []
unfolding open-all
bits = refl

pub signs : map signed_of (0x0000 ∷ 0x0FFF ∷ 0x1000 ∷ 0x1FFF ∷ 0xE005 ∷ []) ≡ pos 0 ∷ pos 4095 ∷ negsuc 4095 ∷ negsuc 0 ∷ pos 5 ∷ []
unfolding open-all
signs = refl

-- a sensor with high 1280, low 256, critical 1600 and h = 24, whose flags were as given (bits 15:13)
abbrev limited : ℕ → Sensor
limited was = with_temperature was (with_configuration 0x0200 (with_high 0x0500 (with_low 0x0100 (with_critical 0x0640 full))))

abbrev set_before : Sensor
set_before = limited 0xE000

abbrev clear_before : Sensor
clear_before = limited 0x0000

-- "bit 15 is set when t >= critical and cleared when t < critical - h"
pub critical-ends : map (λ (f : ℤ → Bool). map f (pos 1575 ∷ pos 1576 ∷ pos 1599 ∷ pos 1600 ∷ pos 1601 ∷ [])) (critical_flag set_before ∷ critical_flag clear_before ∷ [])
    ≡ (false ∷ true ∷ true ∷ true ∷ true ∷ []) ∷ (false ∷ false ∷ false ∷ true ∷ true ∷ []) ∷ []
unfolding open-all
critical-ends = refl

-- "bit 14 is set when t > high and cleared when t <= high - h"
pub high-ends : map (λ (f : ℤ → Bool). map f (pos 1255 ∷ pos 1256 ∷ pos 1257 ∷ pos 1280 ∷ pos 1281 ∷ [])) (high_flag set_before ∷ high_flag clear_before ∷ [])
    ≡ (false ∷ false ∷ true ∷ true ∷ true ∷ []) ∷ (false ∷ false ∷ false ∷ false ∷ true ∷ []) ∷ []
unfolding open-all
high-ends = refl

-- "bit 13 is set when t < low - h and cleared when t >= low"
pub low-ends : map (λ (f : ℤ → Bool). map f (pos 231 ∷ pos 232 ∷ pos 255 ∷ pos 256 ∷ pos 257 ∷ [])) (low_flag set_before ∷ low_flag clear_before ∷ [])
    ≡ (true ∷ true ∷ true ∷ false ∷ false ∷ []) ∷ (true ∷ false ∷ false ∷ false ∷ false ∷ []) ∷ []
unfolding open-all
low-ends = refl

-- each flag looks at its own bit alone
pub own_bits : map (λ was. reading (limited was) (pos 1270)) (0x8000 ∷ 0x4000 ∷ 0x2000 ∷ 0x1FFF ∷ []) ≡ 0x04F6 ∷ 0x44F6 ∷ 0x04F6 ∷ 0x04F6 ∷ []
unfolding open-all
own_bits = refl

-- request P7, "mend the flags": in steps of 8, with high 1284, low 264, critical 1544 and h = 24, each flag set and cleared at its ends by the rounded number, and by limits
-- and limits less h that are not rounded
abbrev coarse : ℕ → Sensor
coarse was = with_temperature was (with_resolution 0 (with_configuration 0x0200 (with_high 0x0504 (with_low 0x0108 (with_critical 0x0608 full)))))

pub judged : map (λ was. map (λ given. (converted (coarse was) given).temperature)
    (pos 235 ∷ pos 236 ∷ pos 259 ∷ pos 260 ∷ pos 1259 ∷ pos 1260 ∷ pos 1283 ∷ pos 1284 ∷ pos 1515 ∷ pos 1516 ∷ pos 1539 ∷ pos 1540 ∷ [])) (0xE000 ∷ 0x0000 ∷ [])
    ≡ (0x20E8 ∷ 0x20F0 ∷ 0x2100 ∷ 0x0108 ∷ 0x04E8 ∷ 0x44F0 ∷ 0x4500 ∷ 0x4508 ∷ 0x45E8 ∷ 0xC5F0 ∷ 0xC600 ∷ 0xC608 ∷ [])
    ∷ (0x20E8 ∷ 0x00F0 ∷ 0x0100 ∷ 0x0108 ∷ 0x04E8 ∷ 0x04F0 ∷ 0x0500 ∷ 0x4508 ∷ 0x45E8 ∷ 0x45F0 ∷ 0x4600 ∷ 0xC608 ∷ [])
    ∷ []
unfolding open-all
judged = refl

-- limits below zero: high -16, low -32, critical -8, h = 0
abbrev frozen : Sensor
frozen = with_temperature 0x0000 (with_configuration 0x0000 (with_high 0x1FF0 (with_low 0x1FE0 (with_critical 0x1FF8 full))))

pub below-zero : map (reading frozen) (negsuc 32 ∷ negsuc 31 ∷ negsuc 15 ∷ negsuc 14 ∷ negsuc 8 ∷ negsuc 7 ∷ pos 0 ∷ [])
    ≡ 0x3FDF ∷ 0x1FE0 ∷ 0x1FF0 ∷ 0x5FF1 ∷ 0x5FF7 ∷ 0xDFF8 ∷ 0xC000 ∷ []
unfolding open-all
below-zero = refl

-- "A temperature event converts at once unless shut down; in shutdown it changes nothing."
pub shut-down : map (λ c. (converted (with_configuration c full) (pos 1300)).temperature) (0x0100 ∷ 0x07CF ∷ 0x0000 ∷ 0x06CF ∷ []) ≡ 0x0440 ∷ 0x0440 ∷ 0xC514 ∷ 0xC514 ∷ []
unfolding open-all
shut-down = refl

-- For every sensor: what a write puts into each register, and a temperature into 05h.
module _ (x : Sensor) (v : ℕ) where
  pub writes-configuration : written x 0x01 v ≡ with_configuration (configured x.configuration v) x
  unfolding written
  writes-configuration = refl

  pub writes-limits : limits_locked x.configuration ≡ false → (written x 0x02 v ≡ with_high (bit_and v 0x1FFC) x) × (written x 0x03 v ≡ with_low (bit_and v 0x1FFC) x)
  unfolding written
  writes-limits e = (rw e, rw e)

  pub writes-critical : critical_locked x.configuration ≡ false → written x 0x04 v ≡ with_critical (bit_and v 0x1FFC) x
  unfolding written
  writes-critical e = rw e

  pub writes-locked : (limits_locked x.configuration ≡ true → (written x 0x02 v ≡ x) × (written x 0x03 v ≡ x)) × (critical_locked x.configuration ≡ true → written x 0x04 v ≡ x)
  unfolding written
  writes-locked = (λ e. (rw e, rw e), λ e. rw e)

  pub writes-rest : (written x 0x08 v ≡ with_resolution (bit_and v 0x0003) x) × (written x 0x09 v ≡ with_timeout (bit_and v 0x0001) x)
  unfolding written
  writes-rest = (refl, refl)

  -- "00h, 05h, 06h, 07h [..] ignore writes"
  pub writes-ignored : map (λ p. written x p v) (0x00 ∷ 0x05 ∷ 0x06 ∷ 0x07 ∷ []) ≡ x ∷ x ∷ x ∷ x ∷ []
  unfolding written
  writes-ignored = refl

  -- an unlocked configuration takes all its kept bits
  pub configures-free : (critical_locked x.configuration || limits_locked x.configuration) ≡ false → configured x.configuration v ≡ bit_and v 0x07CF
  unfolding configured
  configures-free e = rw e

pub converts : (x : Sensor) (t : ℤ) → (shut_down x ≡ true → converted x t ≡ x) × (shut_down x ≡ false → converted x t ≡ with_temperature (reading x (stepped_of x t)) x)
unfolding converted
converts x t = (λ e. rw e, λ e. rw e)
