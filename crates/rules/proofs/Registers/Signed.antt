-- Signed numbers as omega reads them: z is `up z` less `down z`, one of which is 0, and each sum, product and test of such numbers is a fact of these two.
-- Assumes nothing.
use Prim.Native.Nat.{ℕ, zero, suc, ◌+◌, ◌*◌, ◌≤◌, ◌<◌}
use native.Mathlib.Omega.{arith}
use mathlib.Core.Path.{◌≡◌, refl, ap}
use mathlib.Core.Bool.{Bool, true, false, true≢false}
use borrow.Author.Tests.{ltb-true, ltb-false}
use lib.Dec.{T, ltb, le→leb, leb→le, lt→ltb, ltb→lt}
use lib.IntN.{ℤ, pos, negsuc, neg_ℤ, nat_abs, sub_ℕ, ◌+ℤ◌, ◌-ℤ◌, ◌*ℤ◌}
use lib.Signed.{lt_z, le_z}
use Rattle.proof_lists.specs.Tests.{cond_cases}

unfoldable pub up : ℤ → ℕ
up (pos n) = n
up (negsuc n) = 0

unfoldable pub down : ℤ → ℕ
down (pos n) = 0
down (negsuc n) = suc n

-- a natural number
pub natural : (n : ℕ) → (up (pos n) ≡ n) × (down (pos n) ≡ 0)
unfolding up down
natural n = (refl, refl)

-- the two tell the number
pub same : (x y : ℤ) → up x + down y ≡ up y + down x → x ≡ y
unfolding up down
same (pos a) (pos b) e = ap pos (omega arith)
same (pos a) (negsuc b) e = absurd (omega arith)
same (negsuc a) (pos b) e = absurd (omega arith)
same (negsuc a) (negsuc b) e = ap negsuc (omega arith)

-- sums and differences
under : (a b : ℕ) → up (sub_ℕ a b) + b ≡ a + down (sub_ℕ a b)
unfolding up down
under a b =
    cond_cases (λ (z : ℤ). up z + b ≡ a + down z) (ltb a b)
    (λ e. let h = ltb-true a b e in omega arith) (λ e. let h = ltb-false a b e in omega arith)

pub plus : (x y : ℤ) → up (x +ℤ y) + down x + down y ≡ up x + up y + down (x +ℤ y)
unfolding up down
plus (pos a) (pos b) = omega arith
plus (pos a) (negsuc b) = let e = under a (suc b) in omega arith
plus (negsuc a) (pos b) = let e = under b (suc a) in omega arith
plus (negsuc a) (negsuc b) = omega arith

opposite : (x : ℤ) → (up (neg_ℤ x) ≡ down x) × (down (neg_ℤ x) ≡ up x)
unfolding up down
opposite (pos zero) = (refl, refl)
opposite (pos (suc n)) = (refl, refl)
opposite (negsuc n) = (refl, refl)

pub less : (x y : ℤ) → up (x -ℤ y) + down x + up y ≡ up x + down y + down (x -ℤ y)
less x y = omega (arith, plus x (neg_ℤ y), (opposite y).0, (opposite y).1)

-- multiples
pub times : (x : ℤ) (m : ℕ) → (up (x *ℤ pos m) ≡ up x * m) × (down (x *ℤ pos m) ≡ down x * m)
unfolding up down
times (pos a) m = (refl, omega arith)
times (negsuc a) m = let e = opposite (pos (suc a * m)) in (omega (arith, e.0), e.1)

pub twice : (x : ℤ) → (up (pos 2 *ℤ x) ≡ 2 * up x) × (down (pos 2 *ℤ x) ≡ 2 * down x)
unfolding up down
twice (pos a) = (refl, refl)
twice (negsuc a) = let e = opposite (pos (2 * suc a)) in (e.0, e.1)

-- tests
pub le-to : (x y : ℤ) → T (le_z x y) → up x + down y ≤ up y + down x
unfolding up down
le-to (pos a) (pos b) h = let k = leb→le a b h in omega arith
le-to (pos a) (negsuc b) h = absurd h
le-to (negsuc a) (pos b) h = omega arith
le-to (negsuc a) (negsuc b) h = let k = leb→le b a h in omega arith

pub le_from : (x y : ℤ) → up x + down y ≤ up y + down x → T (le_z x y)
unfolding up down
le_from (pos a) (pos b) h = le→leb a b (omega arith)
le_from (pos a) (negsuc b) h = absurd (omega arith)
le_from (negsuc a) (pos b) h = tt
le_from (negsuc a) (negsuc b) h = le→leb b a (omega arith)

pub lt-to : (x y : ℤ) → T (lt_z x y) → up x + down y < up y + down x
unfolding up down
lt-to (pos a) (pos b) h = let k = ltb→lt a b h in omega arith
lt-to (pos a) (negsuc b) h = absurd h
lt-to (negsuc a) (pos b) h = omega arith
lt-to (negsuc a) (negsuc b) h = let k = ltb→lt b a h in omega arith

pub lt-from : (x y : ℤ) → up x + down y < up y + down x → T (lt_z x y)
unfolding up down
lt-from (pos a) (pos b) h = lt→ltb a b (omega arith)
lt-from (pos a) (negsuc b) h = absurd (omega arith)
lt-from (negsuc a) (pos b) h = tt
lt-from (negsuc a) (negsuc b) h = lt→ltb b a (omega arith)

pub lt-false : (x y : ℤ) → lt_z x y ≡ false → up y + down x ≤ up x + down y
unfolding up down
lt-false (pos a) (pos b) e = let k = ltb-false a b e in omega arith
lt-false (pos a) (negsuc b) e = omega arith
lt-false (negsuc a) (pos b) e = absurd (true≢false e)
lt-false (negsuc a) (negsuc b) e = let k = ltb-false b a e in omega arith

-- a test that holds is true, and one that cannot is false
pub holds : (b : Bool) → T b → b ≡ true
holds true h = refl
holds false h = absurd h

pub fails : (b : Bool) → (T b → ⊥) → b ≡ false
fails true h = absurd (h tt)
fails false h = refl

-- how far from 0: the number itself, or its opposite
pub size {ℓ} : {P : Type ℓ} (z : ℤ) → (nat_abs z + down z ≡ up z → P) → (nat_abs z + up z ≡ down z → P) → P
unfolding up down
size (pos a) f g = f (omega arith)
size (negsuc a) f g = g (omega arith)

pub size-least : (z : ℤ) → (up z ≤ nat_abs z + down z) × (down z ≤ nat_abs z + up z)
size-least z = size z (λ e. omega arith) (λ e. omega arith)

pub size-most : (z : ℤ) (n : ℕ) → up z ≤ n + down z → down z ≤ n + up z → nat_abs z ≤ n
size-most z n h k = size z (λ e. omega arith) (λ e. omega arith)
