-- Bits 12:0 and the flags of register 05h, read back, tell t and the definitions' flags; and a given temperature counts by its t alone.
-- Assumes nothing.
use mathlib.Core.Path.{◌≡◌, ap, ◌∙◌}
use mathlib.Core.Bool.{Bool, true, false, cond}
use Prim.Native.Nat.{ℕ, ◌-◌, ◌*◌, ◌/◌, ◌%◌, ◌<◌}
use native.Mathlib.Omega.{arith}
use borrow.Author.Tests.{lt-ltb, le-ltb}
use lib.Dec.{T, leb→le}
use lib.IntN.{ℤ, pos, negsuc}
use lib.Signed.{le_z}
use Rattle.rules.specs.declared.Sensor.{Sensor}
use Rattle.rules.specs.Fields.{with_temperature}
use Rattle.rules.specs.Sensor.{bits_of, signed_of, stepped_of, shut_down, critical_flag, high_flag, low_flag, reading, converted}
use Rattle.rules.proofs.Registers.Signed.{le-to, le_from, up, down}
use Rattle.rules.proofs.Registers.Rounding.{stepped-least, stepped-most, stepped-again}

-- two's complement in 13 bits
pub bits_back : (t : ℤ) → T (le_z (negsuc 4095) t) → T (le_z t (pos 4095)) → signed_of (bits_of t) ≡ t
unfolding signed_of bits_of
bits_back (pos n) h k =
    let l = leb→le n 4095 k in
    let e : n % 8192 % 8192 ≡ n = omega arith in
    rw (e, lt-ltb n 4096 (omega arith))
bits_back (negsuc n) h k =
    let l = leb→le n 4095 h in
    let e : (8191 - n % 8192) % 8192 ≡ 8191 - n = omega arith in
    rw (e, le-ltb (8191 - n) 4096 (omega arith)) (ap negsuc (omega arith))

bits_small : (t : ℤ) → bits_of t < 8192
unfolding bits_of
bits_small (pos n) = omega arith
bits_small (negsuc n) = omega arith

-- what stands above bit 12 does not count
signed_low : (u v : ℕ) → u % 8192 ≡ v % 8192 → signed_of u ≡ signed_of v
unfolding signed_of
signed_low u v e = rw e

-- the register's value v tells t and the flags
pub record Tells (x : Sensor) (t : ℤ) (v : ℕ) : Type 0 where
  pub value : signed_of v ≡ t
  pub critical : v / 32768 % 2 ≡ cond (critical_flag x t) 1 0
  pub high : v / 16384 % 2 ≡ cond (high_flag x t) 1 0
  pub low : v / 8192 % 2 ≡ cond (low_flag x t) 1 0

-- a flag as a digit, at its weight
weight : (w : ℕ) (b : Bool) → (cond b w 0 ≡ cond b 1 0 * w) × (cond b 1 0 < 2)
weight w true = (omega arith, omega arith)
weight w false = (omega arith, omega arith)

pub reading-tells : (x : Sensor) (t : ℤ) → T (le_z (negsuc 4095) t) → T (le_z t (pos 4095)) → Tells x t (reading x t)
unfolding reading
reading-tells x t h k =
    let critical = weight 32768 (critical_flag x t) in
    let high = weight 16384 (high_flag x t) in
    let low = weight 8192 (low_flag x t) in
    let small = bits_small t in
    record {
      value = signed_low (reading x t) (bits_of t) (omega arith) ∙ bits_back t h k;
      critical = omega arith;
      high = omega arith;
      low = omega arith;
    }

pub converted-tells : (x : Sensor) (given : ℤ) → shut_down x ≡ false → T (le_z (negsuc 639) given) → T (le_z given (pos 2000))
    → Tells x (stepped_of x given) (converted x given).temperature
unfolding converted with_temperature up down
converted-tells x given awake h k =
    let t = stepped_of x given in
    let least = le-to (negsuc 639) t (stepped-least x given h) in
    let most = le-to t (pos 2000) (stepped-most x given k) in
    rw awake (reading-tells x t (le_from (negsuc 4095) t (omega arith)) (le_from t (pos 4095) (omega arith)))

-- what a temperature does goes by t: the flags are judged by the rounded number, and not by the given one
pub judged-by-t : (x : Sensor) (given : ℤ) → converted x given ≡ converted x (stepped_of x given)
unfolding converted
judged-by-t x given = rw (stepped-again x given)
