-- Half a step more, and the multiple below: the nearest multiple, halves upward, once over the half; and it is done in 32 bits.
-- Assumes nothing.
use Prim.Native.Nat.{ℕ, zero, suc, ◌+◌, ◌*◌, ◌/◌, ◌<◌, ◌≤◌}
use native.Mathlib.Nat.{div-mul-le_self}
use native.Mathlib.Omega.{arith}
use mathlib.Core.Path.{◌≡◌, refl, sym, ◌∙◌}
use lib.IntN.{ℤ, pos, negsuc, neg_ℤ, ◌+ℤ◌, ◌*ℤ◌}
use lib.Signed.{mag, shr_z, mag_shr}
use mir.Syntax.{w16, w32}
use mir.Val.{SFits, to_z, of_z}
use Rattle.rules.specs.Sensor.{multiple_below, nearest_of}
use Rattle.rules.proofs.Registers.Signed.{natural, plus, times, same}
use Rattle.rules.proofs.Registers.Rounding.{divided, bounded, nearest-is, nearest-only, nearest-self}
use Rattle.bus_sensor.proofs.temperature.Signed.{back, wide_back, plus-mag}

neg-mag : (x : ℕ) → mag (neg_ℤ (pos x)) ≤ x
neg-mag zero = omega arith
neg-mag (suc x) = omega arith

-- the multiple below stands no more than a step further from 0
below-mag : (m : ℕ) (z : ℤ) → mag (shr_z z m *ℤ pos m) ≤ mag z + m
below-mag m (pos a) = omega (arith, div-mul-le_self a m)
below-mag m (negsuc a) = omega (arith, neg-mag (suc (a / m) * m), div-mul-le_self a m)

rounded : (k : ℕ) → 0 < k → (z : ℤ) → shr_z (z +ℤ pos k) (2 * k) *ℤ pos (2 * k) ≡ nearest_of (2 * k) z
unfolding multiple_below
rounded k some z =
    let m = 2 * k in
    let w = z +ℤ pos k in
    let t = shr_z w m *ℤ pos m in
    let a = divided m (omega arith) w in
    let p = plus z (pos k) in
    let n = natural k in
    nearest-only m (omega arith) z t (nearest_of m z) (bounded m (omega arith) z t (shr_z w m, refl) (omega arith) (omega arith)) (nearest-is m (omega arith) z)

-- a number's 16 bits taken as 32
abbrev widened : ℤ → ℤ
widened z = to_z w32 (of_z w32 (to_z w16 (of_z w16 z)))

widened_is : (z : ℤ) → SFits w16 z → widened z ≡ z
widened_is z h = rw (back z h.sfits) (wide_back z (omega (arith, h.sfits)))

-- in steps of 1 the number itself is the nearest
pub single-is : (z : ℤ) → SFits w16 z → widened z ≡ nearest_of 1 z
single-is z h = widened_is z h ∙ sym (nearest-self 1 (omega arith) z (z, sym (same (z *ℤ pos 1) z (omega (arith, times z 1)))))

-- a small number added, a small step divided by and multiplied with: all of it fits
module _ (k m : ℕ) (small : k + m < 100) (z : ℤ) (h : SFits w16 z) where
  sum-mag : mag (z +ℤ pos k) < 40000
  sum-mag = plus-mag z k 40000 (omega (arith, h.sfits))

  multiple-mag : mag (shr_z (z +ℤ pos k) m *ℤ pos m) < 2147483648
  multiple-mag = omega (arith, sum-mag, below-mag m (z +ℤ pos k))

  shifted-is : to_z w32 (of_z w32 (shr_z (to_z w32 (of_z w32 (widened z +ℤ pos k))) m)) ≡ shr_z (z +ℤ pos k) m
  shifted-is = rw (widened_is z h, wide_back (z +ℤ pos k) (omega (arith, sum-mag))) (wide_back _ (omega (arith, sum-mag, mag_shr (z +ℤ pos k) m)))

  product_is : to_z w32 (of_z w32 (to_z w32 (of_z w32 (shr_z (to_z w32 (of_z w32 (widened z +ℤ pos k))) m)) *ℤ pos m)) ≡ shr_z (z +ℤ pos k) m *ℤ pos m
  product_is = rw (shifted-is, wide_back (shr_z (z +ℤ pos k) m *ℤ pos m) multiple-mag)

pub rounded-is : (k : ℕ) → 0 < k → k < 30 → (z : ℤ) → SFits w16 z
    → to_z w32 (of_z w32 (to_z w32 (of_z w32 (shr_z (to_z w32 (of_z w32 (widened z +ℤ pos k))) (2 * k))) *ℤ pos (2 * k))) ≡ nearest_of (2 * k) z
rounded-is k some small z h = product_is k (2 * k) (omega arith) z h ∙ rounded k some z
