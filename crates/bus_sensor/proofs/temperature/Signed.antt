-- Laws of signed numbers: which fit 16 and 32 bits, and what their bits are. `mag z` is n for n and for -(n + 1), so that a range is one bound.
-- Assumes nothing.
use Prim.Native.Nat.{ℕ, suc, ◌+◌, ◌<◌}
use native.Mathlib.Omega.{arith}
use mathlib.Core.Path.{◌≡◌}
use lib.Dec.{ltb}
use lib.IntN.{ℤ, pos, negsuc, sub_ℕ, ◌+ℤ◌}
use lib.Signed.{mag}
use mir.Syntax.{w16, w32}
use mir.Val.{to_z, of_z}
use mir.Facts.{to_z-of_z}
use Rattle.proof_lists.specs.Tests.{cond_cases}

-- a number that fits is the number of its bits; `.ok` of a call's result has this bound
pub back : (z : ℤ) → mag z < 32768 → to_z w16 (of_z w16 z) ≡ z
back z h = to_z-of_z {w = w16} (record { sfits = h })

pub wide_back : (z : ℤ) → mag z < 2147483648 → to_z w32 (of_z w32 z) ≡ z
wide_back z h = to_z-of_z {w = w32} (record { sfits = h })

sub-mag : (a b k : ℕ) → a < k → b < k → mag (sub_ℕ a b) < k
sub-mag a b k h g = cond_cases (λ (z : ℤ). mag z < k) (ltb a b) (λ e. omega arith) (λ e. omega arith)

-- a sum stays within the two parts' sum
pub plus-mag : (z : ℤ) (n k : ℕ) → mag z + n + 1 < k → mag (z +ℤ pos n) < k
plus-mag (pos a) n k g = omega arith
plus-mag (negsuc a) n k g = sub-mag n (suc a) k (omega arith) (omega arith)
